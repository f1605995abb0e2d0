-- The lemmas.
mod Parts
mod ItemSteps
mod Lines
mod Uses
mod Answering

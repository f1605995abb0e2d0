-- The lemmas.
mod Steps
mod Notes
mod Simples

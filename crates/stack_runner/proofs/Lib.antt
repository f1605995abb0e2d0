-- The lemmas of this crate's proofs.
mod Arms
mod Checks
mod Generated
mod Moves
mod Stores
mod Taken

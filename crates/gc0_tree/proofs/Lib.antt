-- The lemmas of this crate's proofs.
mod Joins
mod Counts
pub mod Upward

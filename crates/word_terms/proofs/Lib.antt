-- The lemmas of this crate's proofs.
pub mod Kept
pub mod Marking
pub mod Valued

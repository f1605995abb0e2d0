-- The lemmas of this crate's proofs.
pub mod Written
pub mod Ended
pub mod Right

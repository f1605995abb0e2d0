-- The lemmas of this crate's proofs.
pub mod Soundness
pub mod Walks
pub mod Verdicts

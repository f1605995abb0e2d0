-- The lemmas of this crate's proofs.
pub mod Trees
pub mod Reading
pub mod Deciding

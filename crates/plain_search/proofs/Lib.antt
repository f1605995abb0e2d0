-- The lemmas of this crate's proofs.
pub mod Jumps
pub mod Numbers
pub mod Settling
pub mod States

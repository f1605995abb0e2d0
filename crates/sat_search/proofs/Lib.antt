-- The lemmas of this crate's proofs.
pub mod Moves
pub mod Keeping
pub mod Retaking
pub mod Reducing
pub mod Adapting
pub mod Gathered
pub mod Turning
pub mod Measures

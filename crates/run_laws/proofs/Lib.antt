-- The proofs.
pub mod Runs

-- The proofs.
pub mod Guards

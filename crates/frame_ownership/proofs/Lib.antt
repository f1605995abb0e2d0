-- The proofs.
pub mod Rows
pub mod Sights
pub mod Stacking
pub mod Standing
pub mod Stepping
pub mod Mine

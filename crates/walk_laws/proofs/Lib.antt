-- The proofs.
pub mod Alike
pub mod AllCells
pub mod Free
pub mod Same
pub mod Stacked
pub mod Unrolled

-- The lemmas of this crate's proofs.
pub mod Stretches
pub mod Viewed
pub mod Stamped
pub mod Kept
pub mod Stamping
pub mod Ranges
pub mod Opening
pub mod Owning

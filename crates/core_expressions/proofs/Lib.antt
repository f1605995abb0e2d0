-- The lemmas of this crate's proofs.
pub mod Starts
pub mod Joins
pub mod Views
pub mod Sides
pub mod Passed
pub mod Choices

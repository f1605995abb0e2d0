-- The lemmas of this crate.
pub mod Behind
pub mod Something
pub mod Choices

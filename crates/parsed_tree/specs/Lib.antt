-- The definitions of this crate.
pub mod Tree
pub mod Views

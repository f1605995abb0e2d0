-- The definitions of this crate.
pub mod Lists
pub mod Literals
pub mod Layout
pub mod Rounding
pub mod Behind

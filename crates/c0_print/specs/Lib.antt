-- The definitions of this crate.
pub mod Printing
pub mod Erased
pub mod Laws
pub mod Examples

-- The definitions that the contracts cite.
pub mod Operators
pub mod Numbers
pub mod Laws

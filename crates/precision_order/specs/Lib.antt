-- The definitions that the contracts cite.
pub mod Bare
pub mod Precision

-- The definitions that the contracts cite.
pub mod Tree
pub mod Views
pub mod Sites
pub mod Numbered
pub mod Calls
pub mod Fits

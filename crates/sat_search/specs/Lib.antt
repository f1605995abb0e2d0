-- The definitions that the contracts cite.
pub mod Learning
pub mod Marks
pub mod Turns

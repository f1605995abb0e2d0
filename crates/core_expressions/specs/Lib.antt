-- The definitions that the contracts cite.
pub mod Branches
pub mod Passing
pub mod Writing

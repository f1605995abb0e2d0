-- The definitions that the contracts cite.
pub mod Built
pub mod Runs
pub mod States

-- The definitions that the contracts cite.
pub mod Occurrences
pub mod Looks
pub mod States
pub mod Turns

-- The definitions that the contracts cite.
pub mod Families
pub mod Lines

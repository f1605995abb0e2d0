-- The definitions.
pub mod Names
pub mod Indexed
pub mod Tables
pub mod Types
pub mod Typing
pub mod Counted

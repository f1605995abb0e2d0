-- The definitions.
pub mod Behind
pub mod Statements
pub mod Rules
pub mod Examples

-- The definitions.
pub mod Violations
pub mod Least
pub mod Scopes
pub mod Expressions
pub mod Formulas

-- The definitions.
pub mod Values
pub mod Texts
pub mod Expressions
pub mod Formulas

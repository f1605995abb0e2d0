-- The definitions.
pub mod StatementTexts
pub mod Statements
pub mod Rows
pub mod Targets
pub mod Resolved
pub mod Examples

-- The definitions of this crate.
pub mod Tree
pub mod Views
pub mod Tokens
pub mod Grammar
pub mod Reads
pub mod Plan
pub mod Forms
pub mod Answers

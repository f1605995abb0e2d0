-- The definitions of this crate.
pub mod Tokens
pub mod Seen
pub mod Lists
pub mod Written
pub mod Allowed
pub mod Texts
pub mod Grammar
pub mod Plan
pub mod Reads
pub mod Examples
pub mod Lexemes
pub mod Faults
pub mod Laws

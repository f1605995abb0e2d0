-- The definitions that the contracts cite.
pub mod Clauses
pub mod Logs
pub mod Marks
pub mod Literals
pub mod Laws

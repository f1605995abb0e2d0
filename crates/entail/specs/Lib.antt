-- The definitions that the contracts cite.
pub mod Questions
pub mod Answers
pub mod Solving
pub mod Settling
pub mod Sheets

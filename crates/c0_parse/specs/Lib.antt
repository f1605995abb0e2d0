-- The definitions that the contracts cite.
pub mod Seen
pub mod Read
pub mod Causes
pub mod Answers
pub mod Heads

-- The definitions that the contracts cite.
pub mod Causes
pub mod Bytes
pub mod Fetching
pub mod Held
pub mod Scripts
pub mod Memory

-- The definitions that the contracts cite, and their laws.
pub mod Seen
pub mod Read
pub mod Laws

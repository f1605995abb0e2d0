-- The definitions that the contracts cite, and their laws.
pub mod Seen
pub mod Laws

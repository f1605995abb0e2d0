-- The definitions that the contracts cite.
pub mod Searches
pub mod Trails
pub mod Propagation
pub mod Levels
pub mod Analysis
pub mod Walks
pub mod Replacing
pub mod Lists
pub mod Places
pub mod Steps
pub mod Refuting
pub mod Settling
pub mod Leveling
pub mod Entries
pub mod Laws

-- The definitions that the contracts cite.
pub mod FoundBy
pub mod Viewed
pub mod Views
pub mod Putting
pub mod Tracked

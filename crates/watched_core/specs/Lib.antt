-- The definitions that the contracts cite.
pub mod WatchRuns
pub mod Watching
pub mod WatchLaws

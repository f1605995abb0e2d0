-- The definitions that the contracts cite.
pub mod CoreRuns
pub mod Choices
pub mod CoreRunning
pub mod CorePrecision
pub mod CoreFits
pub mod CoreSited
pub mod Deciding
pub mod Assigned
pub mod Stepped
pub mod CoreExamples

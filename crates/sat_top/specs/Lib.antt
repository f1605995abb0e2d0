-- The definitions that the contracts cite.
pub mod Requests
pub mod Told
pub mod Lines
pub mod Outcomes

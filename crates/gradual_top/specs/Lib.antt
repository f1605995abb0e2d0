-- The definitions that the contracts cite.
pub mod Requests
pub mod Words
pub mod Source
pub mod Serving
pub mod Lines
pub mod Outcomes

-- The definitions that the contracts cite.
pub mod Gates
pub mod Bits
pub mod Groups
pub mod Circuits
pub mod Valuations
pub mod Queries
pub mod Bounds

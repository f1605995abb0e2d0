-- The definitions that the contracts cite.
pub mod Feeding
pub mod Terms
pub mod Tables
pub mod Laws
pub mod Weights
pub mod Worth
pub mod Parts

-- The definitions that the contracts cite.
pub mod Operators
pub mod Heaps
pub mod Runs
pub mod Holds
pub mod Running
pub mod Precision
pub mod Marking
pub mod Framing
pub mod Examples

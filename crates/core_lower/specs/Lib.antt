-- The definitions that the contracts cite.
pub mod Lowered
pub mod Parts
pub mod Ready
pub mod Separate
pub mod Heads
pub mod Wholes

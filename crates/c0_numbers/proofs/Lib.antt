-- The lemmas.
pub mod Blocks
pub mod Zips
pub mod Parts

-- The lemmas.
pub mod Counts

-- The lemmas.
pub mod Ordinals
pub mod Seen
pub mod Steps

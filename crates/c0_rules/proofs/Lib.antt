-- The lemmas.
pub mod Least
pub mod Kept
pub mod Found
pub mod Likeness
pub mod Aliases

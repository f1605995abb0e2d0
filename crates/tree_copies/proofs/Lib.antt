-- The lemmas.
pub mod Fronts

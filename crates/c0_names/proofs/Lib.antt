-- The lemmas.
pub mod Indexing
pub mod Folds
pub mod Fronts

-- The lemmas.
mod NameSets
mod Stars

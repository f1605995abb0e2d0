-- The lemmas of this crate's proofs.
mod Clean
mod Looks
mod FormulaNames
mod KnownNames
mod Keeps
mod KeptBodies
mod KeptItems
mod Elses
mod WrittenElses
mod Live
mod EndItems
mod Given
mod Words
pub mod FormulaTexts
pub mod FormulaValues
pub mod FormulaStatements
pub mod FormulaPrograms

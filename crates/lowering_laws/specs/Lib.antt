-- The definitions that the contracts cite.
pub mod Counts
pub mod Trees
pub mod Statements
pub mod Lowering
pub mod Tables
pub mod Ends
pub mod Laws
pub mod Kept
pub mod Words
pub mod Apart
pub mod Formulas
pub mod SteppedLaws
pub mod Examples

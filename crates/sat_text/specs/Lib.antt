-- The definitions that the contracts cite.
pub mod Texts
pub mod Formulas
pub mod Reading
pub mod Faults
pub mod Values
pub mod LogTexts

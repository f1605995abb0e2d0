-- The definitions that the contracts cite.
pub mod Parts
pub mod Subjects
pub mod Entries
pub mod Placements

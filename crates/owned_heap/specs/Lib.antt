-- The definitions that the contracts cite.
pub mod Laid
pub mod Views
pub mod LevelSets
pub mod Stands

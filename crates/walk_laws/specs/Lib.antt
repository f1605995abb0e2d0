-- The definitions that the contracts cite.
pub mod SameCells
pub mod Walks

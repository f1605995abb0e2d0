-- The definitions that the contracts cite.
pub mod States
pub mod Watches
pub mod Shelves
pub mod Looks
pub mod Beginning
pub mod Flags
pub mod Guarding
pub mod Growing

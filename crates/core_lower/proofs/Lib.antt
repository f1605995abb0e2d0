-- The lemmas of this crate's proofs.
pub mod Joining
pub mod Choosing
pub mod Views
pub mod Bodies
pub mod Forms
pub mod Wholly
pub mod Meanings
pub mod InOrder
pub mod Steppings

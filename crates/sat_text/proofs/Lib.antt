-- The lemmas of this crate's proofs.
pub mod Rows
pub mod Numbers
pub mod Spelling
pub mod Saying
pub mod Cut

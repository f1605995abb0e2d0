-- The lemmas of this crate's proofs.
pub mod Counting
pub mod Solutions
pub mod Replacing
pub mod Walking

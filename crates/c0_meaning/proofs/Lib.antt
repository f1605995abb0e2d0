-- The lemmas of this crate's proofs.
mod Marked
mod Worklist

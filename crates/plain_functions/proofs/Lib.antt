-- The lemmas of this crate's proofs.
mod Among
mod Lists
mod Backward

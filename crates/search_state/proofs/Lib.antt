-- The lemmas of this crate's proofs.
pub mod Watching
pub mod Signatures
pub mod Shelving
pub mod Looking
pub mod Blocking
pub mod Pushing
pub mod Adding

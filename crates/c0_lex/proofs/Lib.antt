-- The lemmas of this crate.
pub mod Scanning
pub mod Spellings
pub mod Runs
pub mod Quotes
pub mod Nesting
pub mod Fronts
pub mod Faults
pub mod Sound
pub mod Cuts
pub mod Steps
pub mod Ahead
pub mod Numbers
pub mod Unclosed
pub mod Shown
pub mod Slicing

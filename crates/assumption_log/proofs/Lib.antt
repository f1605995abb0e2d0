-- The lemmas.
pub mod Keeping
pub mod SameSites
pub mod SeenPairs
pub mod Parts

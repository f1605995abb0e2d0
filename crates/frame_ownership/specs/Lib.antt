-- The definitions that the contracts cite.
pub mod Footprints
pub mod Frames
pub mod Placed
pub mod Seen

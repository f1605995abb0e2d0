-- The definitions that the contracts cite.
pub mod Capped
pub mod FrameFaults
pub mod Least
pub mod Left
pub mod Paths

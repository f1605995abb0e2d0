-- The definitions of this crate.
pub mod Bytes
pub mod Words
pub mod Pieces
pub mod Texts
pub mod Scan
pub mod Ends

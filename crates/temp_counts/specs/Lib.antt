-- The definitions that the contracts cite.
pub mod Used
pub mod Most
pub mod Counting

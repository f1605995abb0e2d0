-- The definitions that the contracts cite.
pub mod Records
pub mod PairKeys
pub mod AllKept
pub mod Keeping

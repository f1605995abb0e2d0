-- The definitions that the contracts cite.
pub mod Instrs
pub mod Machine
pub mod Coding
pub mod Built
pub mod Views
pub mod Theorem
pub mod Within

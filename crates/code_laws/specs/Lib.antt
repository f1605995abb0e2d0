-- The definitions that the contracts cite.
pub mod Instrs
pub mod Machine
pub mod Coding
pub mod CodeLaws

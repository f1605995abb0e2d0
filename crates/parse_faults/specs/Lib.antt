-- The definitions that the contracts cite.
pub mod TreeFaults
pub mod First

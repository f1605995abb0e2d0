-- The lemmas of this crate's proofs.
pub mod Budget
pub mod Values
pub mod Trees
pub mod Stmts
pub mod Calls
pub mod Maps
pub mod Written

-- The lemmas of this crate.
pub mod Marks
pub mod Takes
pub mod BacksExpr
pub mod BacksStmt
pub mod Backs
pub mod Viable
pub mod Shallows
pub mod Ends
pub mod EntersTokens
pub mod EntersType
pub mod EntersExpr
pub mod EntersNote
pub mod EntersSimple
pub mod EntersStmt
pub mod EntersItem
pub mod Enters
pub mod Runs

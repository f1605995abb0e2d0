-- The lemmas of this crate.
pub mod Forms
pub mod Numbers
pub mod Steps
pub mod StmtForms
pub mod Tables

-- The lemmas.
pub mod Distinct
pub mod Subjects
pub mod Saying
pub mod Entries

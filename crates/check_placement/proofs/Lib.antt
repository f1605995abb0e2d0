-- The lemmas.
pub mod Marks
pub mod Sites
pub mod Placed
pub mod Steps

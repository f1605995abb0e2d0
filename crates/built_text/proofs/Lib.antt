-- The lemmas of this crate.
pub mod Marks
pub mod Takes
pub mod Backs
pub mod Enters
pub mod Runs
pub mod Failing
pub mod Loops
pub mod Cut
pub mod Shows
pub mod Widened
pub mod Follows
pub mod Allows
pub mod Formed
pub mod Told

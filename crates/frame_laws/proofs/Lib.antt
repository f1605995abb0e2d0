-- What the contracts stand on.
pub mod Sets
pub mod Heaps
pub mod Marking
pub mod Calling
pub mod Obeying
pub mod Looping
pub mod Executing
pub mod Moving
pub mod Keeping
pub mod Sizes

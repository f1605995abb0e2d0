pub mod Larger
pub mod Owned
pub mod Unrolled

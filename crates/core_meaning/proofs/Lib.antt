-- What the contracts stand on.
pub mod Asking
pub mod Stepping

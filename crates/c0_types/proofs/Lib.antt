-- The law that a text without violations resolves to a program that fits.
pub mod Looks
pub mod Shapes
pub mod Raised
pub mod World
pub mod Values
pub mod Given
pub mod Clean
pub mod Formulas
pub mod Frames
pub mod Bodies
pub mod Walk
pub mod Callables
pub mod Known
pub mod Programs

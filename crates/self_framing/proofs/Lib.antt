-- The lemmas.
pub mod Accs
pub mod Behind
pub mod Caps
pub mod NoFault

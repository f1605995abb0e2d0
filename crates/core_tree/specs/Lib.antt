-- The definitions that the contracts cite.
pub mod CoreTree
pub mod CoreViews
pub mod CoreSites

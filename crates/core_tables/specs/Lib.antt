-- The definitions that the contracts cite.
pub mod Apart
pub mod RowSteps
pub mod SiteKeys
pub mod SiteTables

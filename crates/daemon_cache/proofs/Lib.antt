pub mod KeptPaths
pub mod Lookups

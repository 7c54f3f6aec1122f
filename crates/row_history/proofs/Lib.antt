pub mod Path
pub mod Small
pub mod Codes
pub mod Allowed
pub mod Found
pub mod Happened
pub mod Only

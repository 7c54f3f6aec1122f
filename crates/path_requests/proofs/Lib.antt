pub mod Items
pub mod Judging
pub mod Moments
pub mod Names
pub mod Places
pub mod Ranges

pub mod Fields
pub mod Sides
pub mod Checks
pub mod Failed
pub mod Lines
pub mod Host
pub mod Whole
pub mod inner

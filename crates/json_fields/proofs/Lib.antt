pub mod Conversion
pub mod Documents
pub mod Front
pub mod Members
mod Digits
mod Signs
mod Texts

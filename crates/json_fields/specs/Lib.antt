pub mod Data
pub mod Documents
pub mod Fields
pub mod Readers
pub mod inner

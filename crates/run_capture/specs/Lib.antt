pub mod Lines
pub mod inner

pub mod Report
pub mod Work
pub mod inner

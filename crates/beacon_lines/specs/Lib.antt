pub mod Reach
pub mod Beaconing
pub mod Lines
pub mod inner

pub mod Row
pub mod Arrives

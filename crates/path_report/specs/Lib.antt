pub mod Paths
pub mod Pair
pub mod Line
pub mod Summary
pub mod Cut
pub mod Json
pub mod Report
pub mod inner

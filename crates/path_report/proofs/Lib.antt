pub mod Placing
pub mod Cutting
pub mod Surviving
pub mod Reporting
pub mod Opening
pub mod Ranking
pub mod Passing
pub mod Writing

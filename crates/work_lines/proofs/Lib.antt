pub mod Departing
pub mod Flown
pub mod Worked

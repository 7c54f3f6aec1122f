pub mod Read
pub mod Told
pub mod Every
pub mod Split
pub mod Delivering

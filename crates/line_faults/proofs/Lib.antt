pub mod Objects
pub mod Told
pub mod Front
pub mod Writing
pub mod Running

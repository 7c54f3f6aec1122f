pub mod Fault
pub mod Place
pub mod Checks
pub mod Step
pub mod Packet
pub mod Done
pub mod Forward
pub mod inner

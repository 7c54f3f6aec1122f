pub mod Fault
pub mod Address
pub mod Reading

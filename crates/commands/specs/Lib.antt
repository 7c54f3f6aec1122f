pub mod Words
pub mod Fault
pub mod Run

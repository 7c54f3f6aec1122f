pub mod Fields
pub mod Turn
pub mod Line
pub mod Fault

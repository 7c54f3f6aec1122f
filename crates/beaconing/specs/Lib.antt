pub mod Fault
pub mod Entry
pub mod Calls
pub mod Issued

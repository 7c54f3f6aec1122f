pub mod Fault
pub mod Refusal
pub mod Optional

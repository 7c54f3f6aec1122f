pub mod Flight
pub mod Delivery
pub mod Run
pub mod Fault
pub mod inner

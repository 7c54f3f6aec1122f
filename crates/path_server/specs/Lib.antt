pub mod Fault
pub mod Segment
pub mod Store
pub mod Index
pub mod Lookup
pub mod Expiry
pub mod inner

pub mod Wrapped
pub mod Datagram
pub mod File

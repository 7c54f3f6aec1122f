pub mod Streams
pub mod Adapters
pub mod inner

pub mod Answer
pub mod Parts
pub mod Step
pub mod Packets
pub mod Header
pub mod Authenticator
pub mod Whole

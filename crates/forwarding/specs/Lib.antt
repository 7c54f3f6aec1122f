pub mod Frame
pub mod Turn
pub mod PathPosition
pub mod Journey
pub mod OnPath
pub mod Forwardable
pub mod Sound
pub mod Turned

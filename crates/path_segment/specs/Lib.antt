pub mod Fault
pub mod Chain
pub mod Tests
pub mod Rules
pub mod Text
pub mod Reading

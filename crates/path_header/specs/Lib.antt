pub mod Fault
pub mod Value
pub mod Building
pub mod Spelling
pub mod Reading
pub mod Shown
pub mod Borrowed
pub mod Reversal

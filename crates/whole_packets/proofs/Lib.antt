pub mod Framed
pub mod InRun

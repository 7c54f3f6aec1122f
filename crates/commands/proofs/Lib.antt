pub mod Adding
pub mod Matches
pub mod Asked
pub mod Done

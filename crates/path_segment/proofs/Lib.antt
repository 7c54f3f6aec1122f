pub mod Again
pub mod Same
pub mod Decided
pub mod Next
pub mod Plain
pub mod Chained

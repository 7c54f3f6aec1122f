pub mod Turned
pub mod InParts
pub mod ReadWhole
pub mod Spelled
pub mod Found
pub mod Written
pub mod Replied

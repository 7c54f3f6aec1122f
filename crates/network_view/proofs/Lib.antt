pub mod Addresses
pub mod Nearness
pub mod Cells
pub mod Drawing

pub mod Ascii
pub mod Cut

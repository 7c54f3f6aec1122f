pub mod Digits
pub mod Spelled
pub mod Printed
mod Lengths
pub mod Canonical
mod Ascii

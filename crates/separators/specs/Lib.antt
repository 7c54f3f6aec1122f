pub mod Blanks
pub mod Signs

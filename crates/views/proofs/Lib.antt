pub mod Paths
mod Wrapping
mod TextShown
mod Picture

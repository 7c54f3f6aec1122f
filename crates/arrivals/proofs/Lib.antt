pub mod Longer
pub mod Turning
pub mod Going
pub mod Least
pub mod JustSent

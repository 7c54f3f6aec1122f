pub mod Hmac
pub mod Hop
pub mod Lifetime

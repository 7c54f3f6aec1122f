pub mod Share
pub mod Tally
pub mod Roles
pub mod Account
pub mod Inbox

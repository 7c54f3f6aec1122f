pub mod Shares
pub mod Balance
pub mod Orders
pub mod Products

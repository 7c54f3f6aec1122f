pub mod Decimal
pub mod Views

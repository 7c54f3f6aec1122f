pub mod Reaching
pub mod Issuing
pub mod Outlasting
pub mod Made
pub mod Coming

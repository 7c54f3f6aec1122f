-- Words of private functions' contracts alone: no clause of a public call cites one.
pub mod Causes
pub mod Doubled
pub mod Index
pub mod Keys
pub mod Lists
pub mod Placed
pub mod Table

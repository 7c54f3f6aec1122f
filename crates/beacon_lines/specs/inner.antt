-- Words of private functions' contracts alone: no clause of a public call cites one.
pub mod Growth
pub mod Ways
pub mod Events
pub mod Spreading
pub mod Search

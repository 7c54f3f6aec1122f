-- Words of private functions' contracts alone: no clause of a public call cites one.
pub mod Adding
pub mod Denying
pub mod Following
pub mod Joining
pub mod Meaning
pub mod Telling

-- Words of private functions' contracts alone: no clause of a public call cites one.
pub mod Header
pub mod Twice

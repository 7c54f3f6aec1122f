-- Words of private functions' contracts alone: no clause of a public call cites one.
pub mod Choice
pub mod Placed
pub mod Search
pub mod UsablePieces
pub mod Alike
pub mod Group
pub mod Words
pub mod Front
pub mod Over
pub mod Gathered

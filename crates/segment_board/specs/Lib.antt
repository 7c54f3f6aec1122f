pub mod Fault
pub mod History
pub mod BoardState
pub mod Rule
pub mod WriterState
pub mod Board
pub mod Writing
pub mod inner

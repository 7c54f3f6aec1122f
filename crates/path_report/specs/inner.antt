-- Words of private functions' contracts alone: no clause of a public call cites one.
pub mod Places
pub mod Cuts
pub mod Needed
pub mod Reports
pub mod Named

pub mod Finding
pub mod Misfits
pub mod Subjects
pub mod Explanation
pub mod Explained
pub mod inner

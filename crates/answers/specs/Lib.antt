pub mod Answers
pub mod Restoring

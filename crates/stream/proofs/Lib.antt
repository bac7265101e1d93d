pub mod Answers
pub mod Cutting

pub mod Elements
pub mod Progress
pub mod Stretches
pub mod Answers

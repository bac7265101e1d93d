pub mod Format
pub mod Rounding
pub mod Refusal
pub mod Answers
pub mod Nearest

pub mod Small
pub mod Stored
pub mod Walked

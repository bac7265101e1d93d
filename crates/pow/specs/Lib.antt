pub mod Parts
pub mod Lanes

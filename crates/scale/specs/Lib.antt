pub mod Scale
pub mod Steps

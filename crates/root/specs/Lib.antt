pub mod Root
pub mod Partial
pub mod Engine

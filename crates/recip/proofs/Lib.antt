pub mod ControlPoints
pub mod Reciprocals
pub mod Entries

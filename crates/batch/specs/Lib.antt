pub mod Batches
pub mod Stretches

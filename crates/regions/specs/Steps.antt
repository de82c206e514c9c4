pub mod Parts
pub mod Progress

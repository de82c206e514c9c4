pub mod Bytes
pub mod Names
pub mod Numbers
pub mod Reading
pub mod Writing
pub mod Steps

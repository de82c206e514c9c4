pub mod Bits
pub mod Promises
pub mod Steps

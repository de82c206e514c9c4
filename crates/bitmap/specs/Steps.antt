pub mod Words
pub mod Looks

pub mod Changes
pub mod Finds
pub mod Promises
pub mod Rows
pub mod Runs
pub mod Smears
pub mod Word
pub mod Zeros

pub mod Amounts
pub mod Outcome
pub mod Promises
pub mod Result
pub mod Text
pub mod Steps

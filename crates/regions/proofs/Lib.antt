pub mod Judging
pub mod Listing
pub mod Naming
pub mod Powers
pub mod Promises
pub mod Refusals

pub mod Bools
pub mod Counts
pub mod Highest
pub mod Longest
pub mod Lowest
pub mod Ranges

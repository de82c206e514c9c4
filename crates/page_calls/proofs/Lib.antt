pub mod Looks
pub mod PageOutcomes
pub mod Puts

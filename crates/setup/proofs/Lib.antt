pub mod AllAreas
pub mod DeclareOutcomes
pub mod Plans
pub mod Starts
pub mod Taken

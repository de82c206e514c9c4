pub mod Alignment
pub mod DeviceOutcomes
pub mod GrantOutcomes
pub mod GrantSearch
pub mod MoveFacts
pub mod ReleaseOutcomes
pub mod Starts
pub mod Tries

pub mod DeviceSteps
pub mod Refusals

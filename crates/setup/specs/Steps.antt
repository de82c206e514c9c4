pub mod Boot
pub mod Held
pub mod Plan

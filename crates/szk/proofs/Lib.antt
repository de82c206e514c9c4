pub mod LayoutFacts
pub mod LentFacts
pub mod NextRecord
pub mod ReadBack
pub mod Refusals

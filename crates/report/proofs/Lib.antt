pub mod Amounts
pub mod Ends
pub mod Fronts
pub mod Lines
pub mod Listing
pub mod OverAreas

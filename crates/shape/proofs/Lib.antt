pub mod Disjoint
pub mod Rooms
pub mod Returns

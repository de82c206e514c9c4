pub mod Bodies
pub mod Decoding
pub mod Little
pub mod Pieces

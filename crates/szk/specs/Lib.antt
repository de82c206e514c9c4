pub mod Exported
pub mod Layout
pub mod Statement
pub mod Steps

pub mod Instance
pub mod Ledger
pub mod Lists
pub mod Roles
pub mod Statement

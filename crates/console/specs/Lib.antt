pub mod Called
pub mod Calls
pub mod Commanded
pub mod Histories
pub mod Holds
pub mod Loads
pub mod Tapes

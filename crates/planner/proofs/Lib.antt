pub mod LookCases
pub mod HeldTask
pub mod LookMade
pub mod Replies
pub mod Runs
pub mod Since

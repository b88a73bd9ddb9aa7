pub mod Counted
pub mod Held
pub mod Least
pub mod Recounted
pub mod Rounds

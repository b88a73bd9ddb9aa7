pub mod Duals
pub mod Meaning
pub mod FaultEntry
pub mod Turned
pub mod Turns
pub mod Follows

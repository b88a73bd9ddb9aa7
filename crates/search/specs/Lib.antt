pub mod Search
pub mod Shortest

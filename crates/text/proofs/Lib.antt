pub mod ReadSoFar
pub mod Unique
pub mod Steps
pub mod Walks
pub mod LineWords

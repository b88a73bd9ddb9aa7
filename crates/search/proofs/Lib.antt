pub mod Bounds
pub mod ShortestFound
pub mod Limits
pub mod Lists
pub mod Rounds
pub mod Rows
pub mod Searches
pub mod Thresholds

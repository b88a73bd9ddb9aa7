pub mod Expected
pub mod Lines
pub mod Readers
pub mod TrayCounts
pub mod Words

pub mod Left
pub mod Nexts
pub mod Records
pub mod Sheets
pub mod Tables
pub mod Trails
pub mod Walks

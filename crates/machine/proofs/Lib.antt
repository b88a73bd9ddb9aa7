pub mod Relabelled
pub mod Ways

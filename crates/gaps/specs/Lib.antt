pub mod Counts
pub mod Kinds
pub mod Laws

pub mod NeverHome
pub mod Shuttles

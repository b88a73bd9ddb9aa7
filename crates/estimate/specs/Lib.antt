pub mod Meaning
pub mod Layers
pub mod Laws

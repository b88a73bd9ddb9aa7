pub mod Kinds
pub mod Laws
pub mod Towers
pub mod Tray

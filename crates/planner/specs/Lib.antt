pub mod Calls
pub mod Holds
pub mod Promise
pub mod Since
pub mod ToCome
pub mod Told
pub mod UnderWay

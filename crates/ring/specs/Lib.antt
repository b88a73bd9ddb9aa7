pub mod Ring
pub mod Laws

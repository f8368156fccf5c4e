pub mod Damages
pub mod Laws

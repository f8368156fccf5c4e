pub mod Lining
pub mod Standing

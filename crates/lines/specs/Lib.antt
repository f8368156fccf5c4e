pub mod Lines
pub mod Rows
pub mod Transducers
pub mod Tabs
pub mod Wraps
pub mod Laws
pub mod Examples

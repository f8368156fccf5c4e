pub mod Steadiness
pub mod Scanning
pub mod Lining
pub mod Changing
pub mod Wrapping
pub mod Stopping
pub mod Stepping

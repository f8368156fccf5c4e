pub mod Marking
pub mod Tables
pub mod Shifting
pub mod Sweeping
pub mod Overs

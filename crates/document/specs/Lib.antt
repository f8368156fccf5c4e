pub mod Lines
pub mod Stretches
pub mod Words

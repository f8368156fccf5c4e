mod Decoding
mod Encoding
mod Least
mod Reading
mod Running
pub mod Stretches

pub mod Codes
pub mod Encoded
pub mod Search
pub mod Sums
pub mod Texts
pub mod Utf8

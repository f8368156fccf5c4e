pub mod Scans
pub mod Widths

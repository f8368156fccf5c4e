pub mod Patching
pub mod Counting
pub mod Damaging

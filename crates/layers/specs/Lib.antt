pub mod Finding
pub mod Ordering
pub mod Marked

pub mod Rising
pub mod Marking
pub mod Obeying
pub mod Ordering

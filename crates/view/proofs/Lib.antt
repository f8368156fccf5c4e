pub mod Answering
pub mod Editing
pub mod Ending

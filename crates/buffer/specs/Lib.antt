pub mod Documents
pub mod Refusals
pub mod Edits
pub mod Gaps
pub mod GapBuffers

pub mod Maps
pub mod Changes
pub mod Pieces
pub mod Marks

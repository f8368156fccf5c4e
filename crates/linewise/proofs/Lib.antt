pub mod RowEnds
pub mod Walks
pub mod Raising

pub mod Ordering
pub mod Indexing
pub mod Fitting
pub mod Carrying
pub mod Dropping
pub mod Searching

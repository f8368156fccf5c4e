pub mod Records
pub mod Hints
pub mod Folds
pub mod Tables
pub mod Placing

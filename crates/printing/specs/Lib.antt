pub mod Visits
pub mod Words
pub mod Orders

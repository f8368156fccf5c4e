pub mod Finding
pub mod Rewriting
mod Walking
pub mod Placing
pub mod Laying
mod Reaching
pub mod Keeping
mod Relaying
mod Splitting
pub mod Weighing
mod Parting
pub mod Following
pub mod Putting
mod Cutting
pub mod Counting
pub mod Summing

pub mod Sound
pub mod Stacking
pub mod Fitting
pub mod Carrying

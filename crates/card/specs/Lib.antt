pub mod Cards
pub mod Faults
pub mod Sizes

pub mod Paired
pub mod Pairs

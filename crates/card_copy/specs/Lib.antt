pub mod Compares
pub mod Copies

pub mod Blocks
pub mod Stored
pub mod Worn

pub mod Answers
pub mod Calls
pub mod Kinds
pub mod Refusals

pub mod Places
pub mod Splits
pub mod Answers

pub mod Blocks
pub mod Places
pub mod Clean
pub mod Steps
pub mod Sums
pub mod Meaning
pub mod Kept
pub mod Runs

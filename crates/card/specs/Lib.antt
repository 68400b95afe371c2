pub mod Layout
pub mod Refusals
pub mod Paper

pub mod Login
pub mod Paper

pub mod Coding
pub mod Laws
pub mod Vectors

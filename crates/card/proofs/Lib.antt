pub mod Trailers
pub mod Cards
pub mod Costing
pub mod Pieces
pub mod Answers
pub mod Meanings
pub mod Behind
pub mod Whole

pub mod Parts
pub mod Picks
pub mod Tabs
pub mod Words
pub mod Arrays
pub mod Bounds

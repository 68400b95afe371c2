pub mod Powers
pub mod Spacings
pub mod Goods

pub mod Derivation
pub mod Limits
pub mod Plans
pub mod Scrypt

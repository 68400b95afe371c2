pub mod Machine
pub mod ROMix

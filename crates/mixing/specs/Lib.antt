pub mod BlockMix

pub mod Blocks
pub mod Tags
pub mod Parts
pub mod Apart

pub mod Taking
pub mod Writing
pub mod Keeping
pub mod Talking

pub mod Numbers
pub mod Parts
pub mod Places
pub mod Putting
pub mod Kept
pub mod Coming
pub mod Each

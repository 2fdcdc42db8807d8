pub mod Sizes
pub mod ToldBack

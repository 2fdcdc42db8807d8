mod Shelving
mod Files
mod Putting
pub mod Shelves

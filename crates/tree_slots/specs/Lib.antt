pub mod Arena
pub mod Head

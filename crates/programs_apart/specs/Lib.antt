pub mod Starting
pub mod Variables
pub mod Waiting

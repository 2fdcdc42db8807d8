pub mod Lists
pub mod Levels
pub mod Climbing
pub mod Spelled
pub mod Checked
pub mod Proved
pub mod Pairs
pub mod Heads

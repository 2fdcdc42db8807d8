pub mod Sums
pub mod Division
pub mod Symbols
pub mod Distance
pub mod Unique
pub mod Spelled
pub mod Cut

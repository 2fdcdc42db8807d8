pub mod Cutting
pub mod Pieces
pub mod Quitting
pub mod Read
pub mod Refused
pub mod Searching
pub mod Spelled
pub mod Splitting

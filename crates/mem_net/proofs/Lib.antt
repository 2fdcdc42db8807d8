pub mod Handling
pub mod Reaching
pub mod Early
mod Lying
pub mod Meeting
pub mod Ruling
mod Numbering

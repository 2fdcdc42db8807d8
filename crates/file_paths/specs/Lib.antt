pub mod Limits
pub mod Path
pub mod Refusals
pub mod Spelling
pub mod Reading
pub mod Fields
pub mod Broken
pub mod Inside

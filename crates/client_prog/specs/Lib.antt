pub mod Ending
pub mod Inside
pub mod Words

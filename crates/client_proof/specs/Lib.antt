pub mod Ending
pub mod Inside
pub mod Texts
pub mod Words

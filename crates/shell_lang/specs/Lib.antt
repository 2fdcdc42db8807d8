pub mod Commands
pub mod Faults
pub mod Lines
pub mod Reading
pub mod Refusing
pub mod Spelling
pub mod Texts
pub mod Words

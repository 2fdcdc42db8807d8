pub mod Reading
mod Spelling

pub mod Trees
pub mod Behind
pub mod Steps
pub mod Touching

pub mod Undos
pub mod Applying
pub mod Behind
pub mod Inside

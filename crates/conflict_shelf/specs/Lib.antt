pub mod Shelf
pub mod Inside
pub mod Laws

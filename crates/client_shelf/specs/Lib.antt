pub mod Shelving
pub mod Texts
pub mod Ending
pub mod Inside
pub mod Laws

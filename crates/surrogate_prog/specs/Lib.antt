pub mod Words
pub mod Serving
pub mod Run
pub mod Inside
pub mod Laws

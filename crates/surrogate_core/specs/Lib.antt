pub mod Handling
pub mod Serving
pub mod Laws
pub mod Inside
pub mod Free

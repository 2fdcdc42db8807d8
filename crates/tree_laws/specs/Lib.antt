pub mod Laws
pub mod Broken

pub mod Sides
pub mod Merging
pub mod Steps
pub mod Taking
pub mod Laws

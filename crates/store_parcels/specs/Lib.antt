pub mod Limits
pub mod Front
pub mod Repeats
pub mod Opening
pub mod Packing
pub mod Laws

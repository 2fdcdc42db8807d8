pub mod Limits
pub mod Spelling
pub mod Sizes
pub mod Fronts
pub mod Coming
pub mod Laws

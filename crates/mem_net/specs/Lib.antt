pub mod Scenes
pub mod Inside
pub mod Laws
pub mod Lying
pub mod Drill
pub mod Handed
pub mod Limits

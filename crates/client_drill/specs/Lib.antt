pub mod Drill
pub mod Drilled
pub mod Ending
pub mod Laws
pub mod Limits

pub mod Assigned
pub mod Variables

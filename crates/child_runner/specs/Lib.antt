pub mod Judging
pub mod Names
pub mod Waiting
pub mod Works

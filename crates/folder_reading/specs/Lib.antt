pub mod Found
pub mod Inputs
pub mod Withheld

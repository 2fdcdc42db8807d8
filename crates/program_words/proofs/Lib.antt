mod Printing
pub mod Naming

pub mod Repair
pub mod Inside

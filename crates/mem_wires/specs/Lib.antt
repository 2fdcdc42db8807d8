pub mod Wire
pub mod Fates
pub mod Spending
pub mod Underway

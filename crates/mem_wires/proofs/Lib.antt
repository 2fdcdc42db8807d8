pub mod Taking
pub mod Steps
pub mod Delivering
pub mod Deciding
pub mod Spent

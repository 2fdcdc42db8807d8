pub mod Linear
pub mod Tests
pub mod Product
pub mod Windows
pub mod Powers
pub mod Inverse
pub mod Steps
pub mod Determined

pub mod Held
pub mod Inside
pub mod Outgoing
pub mod Patience
pub mod Addresses

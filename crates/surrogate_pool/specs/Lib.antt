pub mod Addresses
pub mod Rounds
pub mod Inside
pub mod Keeping
pub mod Laws

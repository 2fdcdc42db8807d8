pub mod Holding
pub mod Inside
pub mod Laws
pub mod Framing
pub mod Keeping

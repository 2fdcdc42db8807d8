pub mod Hmac
pub mod Holding
pub mod Limits
pub mod Sealing
pub mod Unforged
pub mod Laws

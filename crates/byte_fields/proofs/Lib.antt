pub mod Facts
pub mod Loop
pub mod Codec
pub mod Cutting
pub mod Breaking
pub mod Fronts
pub mod Tails
pub mod Torn

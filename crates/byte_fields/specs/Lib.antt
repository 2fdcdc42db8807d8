pub mod Field
pub mod Codec
pub mod Numbers
pub mod Cuts
pub mod Broken
pub mod Records

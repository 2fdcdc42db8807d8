pub mod Causes
pub mod Contents
pub mod Doing
pub mod Inside
pub mod Laws
pub mod Looking
pub mod Session
pub mod Stops

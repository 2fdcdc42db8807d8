pub mod Served
pub mod World
pub mod Telling
pub mod Asking
pub mod Settling
pub mod InStep
pub mod Run
pub mod Laws

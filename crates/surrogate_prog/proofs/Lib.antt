mod Doing
mod Connections
mod Totals
mod Alone
mod Silent
mod Unrun
mod Routes
pub mod SoFar

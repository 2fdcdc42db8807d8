pub mod Connections
pub mod Totals

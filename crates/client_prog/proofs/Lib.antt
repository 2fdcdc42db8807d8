mod Checks
mod Forms

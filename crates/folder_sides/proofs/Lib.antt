pub mod Lists
pub mod EndCases
pub mod Below
pub mod Trees
pub mod Laid
pub mod Stepping
pub mod GoingOn
pub mod Takes

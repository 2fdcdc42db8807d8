pub mod PathLemmas
pub mod Refusals
pub mod PathTexts
pub mod Order
pub mod Parts
pub mod SpelledBytes
pub mod Sizes
pub mod Loops

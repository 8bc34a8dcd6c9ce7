pub mod CaseSplits
pub mod Booleans
pub mod Tests
pub mod Below
pub mod Steps
pub mod SumLaws
pub mod Replaced
pub mod Parts

pub mod Value
pub mod Names
pub mod Reading
pub mod Parts
pub mod Counted

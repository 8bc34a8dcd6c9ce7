pub mod Words
pub mod Script
pub mod Examples

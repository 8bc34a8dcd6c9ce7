pub mod Names
pub mod Reading
pub mod Parts
pub mod Printed
pub mod Promise
pub mod Examples

pub mod Words
pub mod Input
pub mod Output
pub mod Printed
pub mod Examples

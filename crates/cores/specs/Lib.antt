pub mod Assign
pub mod Record
pub mod Used
pub mod Examples

pub mod Lines
pub mod Words
pub mod Number
pub mod Fields
pub mod Output

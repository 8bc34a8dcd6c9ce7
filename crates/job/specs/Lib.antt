pub mod Job
pub mod Slot
pub mod Sound
pub mod Precedence
pub mod Search
pub mod Rank

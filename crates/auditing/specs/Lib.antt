pub mod Log
pub mod Line
pub mod Turn
pub mod Parts
pub mod Audit
pub mod Auditor
pub mod OwnLog
pub mod InTimeLog

pub mod AuditLines
pub mod OpeningLaws
pub mod LineAfter
pub mod AfterCores
pub mod PrintedInParts

pub mod Playing
pub mod CaseLinesHold

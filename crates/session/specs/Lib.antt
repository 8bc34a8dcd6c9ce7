pub mod Printed
pub mod CaseLines

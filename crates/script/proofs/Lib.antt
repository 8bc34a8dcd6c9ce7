pub mod TaskLaws
pub mod CallLaws
pub mod OutputLaws
pub mod ReportNumbers
pub mod FewBytes
pub mod WordLineLaws
pub mod WordLineMore

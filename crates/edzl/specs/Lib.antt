pub mod TaskSet
pub mod Window
pub mod Slack
pub mod Cheaper
pub mod SlackExamples
pub mod SumExamples
pub mod CheaperExamples

pub mod Judge
pub mod SlackJudge
pub mod Listed
pub mod Numbers
pub mod Parts
pub mod SlackExamples
pub mod StaysAdmitted
pub mod CheaperExamples

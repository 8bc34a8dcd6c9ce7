pub mod Playing
pub mod ScriptLaws
pub mod ExamplesHold

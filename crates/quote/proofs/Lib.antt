pub mod RangeLine
pub mod RangeLines
pub mod NamesLine
pub mod ReadLaws
pub mod PrintedFew
pub mod PrintedTrue
pub mod ExamplesHold

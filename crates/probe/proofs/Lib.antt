pub mod Missing
pub mod InputLaws
pub mod Showing
pub mod PrintedLaws
pub mod Cut
pub mod ExamplesHold

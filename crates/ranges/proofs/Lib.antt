pub mod Small
pub mod RangesPass
pub mod WithinLaws
pub mod QuoteLaws
pub mod QuoteTrue
pub mod Mapped
pub mod Computing
pub mod QuoteExamplesHold

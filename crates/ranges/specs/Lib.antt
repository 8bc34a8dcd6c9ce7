pub mod Ranges
pub mod Check
pub mod Quote
pub mod Promise
pub mod Written
pub mod QuoteExamples

pub mod PrintedFew

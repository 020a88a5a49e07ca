pub mod Asks
pub mod Infallible
pub mod Values
pub mod RuleAsks
pub mod Matchings
pub mod Views

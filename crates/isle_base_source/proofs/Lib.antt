pub mod LineLemmas
pub mod PositionOrders
pub mod Shown
pub mod SourceLemmas

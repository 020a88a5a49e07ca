pub mod PlaceLemmas
pub mod SettleLemmas

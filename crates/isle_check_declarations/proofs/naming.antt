pub mod Collecting
pub mod ExternLemmas
pub mod ExtractorLemmas
pub mod PairLemmas
pub mod StepLemmas

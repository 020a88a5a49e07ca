pub mod DoingLemmas
pub mod EndLemmas
pub mod ReportLemmas
pub mod ThisLemmas

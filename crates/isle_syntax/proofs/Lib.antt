pub mod FormatLaw
pub mod ReadingLaw
pub mod StreamingLaw
pub mod TreeLaw

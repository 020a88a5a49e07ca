pub mod AllowanceLemmas
pub mod CommentLemmas
pub mod NoteLemmas
pub mod OffLemmas
pub mod OpeningLemmas
pub mod ReadingLemmas
pub mod SharedLemmas
pub mod WritableLemmas

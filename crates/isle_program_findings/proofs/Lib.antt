pub mod CallLemmas
pub mod ExaminedLemmas

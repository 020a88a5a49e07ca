pub mod DepthLemmas
pub mod NextLemmas
pub mod SaidLemmas
pub mod SameLemmas
pub mod ShapeLemmas

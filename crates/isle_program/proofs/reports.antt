pub mod ColourLemmas

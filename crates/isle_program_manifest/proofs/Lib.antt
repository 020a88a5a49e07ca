pub mod ManifestLemmas

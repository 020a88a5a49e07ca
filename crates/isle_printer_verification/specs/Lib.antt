pub mod SpecShapes

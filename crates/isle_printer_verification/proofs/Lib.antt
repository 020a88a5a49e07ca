pub mod BitVectorAtoms
pub mod Erased
pub mod OperatorSymbols
pub mod RadixTexts
pub mod ShapeLaw
pub mod ShortLines

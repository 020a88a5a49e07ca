pub mod Erased
pub mod Printing
pub mod ShapeLaw
pub mod PrintLaw
pub mod ShortLines

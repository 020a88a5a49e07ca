pub mod Texts
pub mod BitVectors
pub mod Marks
pub mod Operators
pub mod Specs
pub mod Models
pub mod Tables
pub mod Lengths

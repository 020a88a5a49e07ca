pub mod Next
pub mod Shapes
pub mod Said
pub mod Values
pub mod Views

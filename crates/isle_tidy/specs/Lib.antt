pub mod Doing
pub mod Pieces
pub mod Program

pub mod Depths
mod LineBreaks
mod LineSteps
mod Values

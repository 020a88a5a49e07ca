pub mod Depths
pub mod Hovers
pub mod Results
pub mod Reporting
pub mod Talks
pub mod Words

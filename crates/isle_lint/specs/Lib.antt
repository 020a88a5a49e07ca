pub mod Options
pub mod Linted
pub mod Report
pub mod Programs
pub mod Doing

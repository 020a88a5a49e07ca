pub mod Calls
pub mod Naming
pub mod Programs
pub mod ReportView

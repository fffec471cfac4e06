pub mod Answers
pub mod Limits
pub mod Reports
pub mod Closing
pub mod WorkedReports
pub mod Scans

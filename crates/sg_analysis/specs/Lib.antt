pub mod Analysis
pub mod Joining

pub mod Limits
pub mod Boosts
pub mod Queries

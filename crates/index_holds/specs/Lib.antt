pub mod Holders
pub mod Entries
pub mod WorkedHolds

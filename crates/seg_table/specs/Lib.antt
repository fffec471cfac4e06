pub mod Owners
pub mod Ids
pub mod Counts
pub mod Table

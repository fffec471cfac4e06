pub mod PlainParts
pub mod Viewing
pub mod Building
pub mod Rows
pub mod Searching
pub mod Searched

pub mod Deletes
pub mod DeleteOrder
pub mod Ranges
pub mod Reached
pub mod JournalDeletes

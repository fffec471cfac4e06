pub mod Entries
pub mod Orders
pub mod Desks
pub mod Lists

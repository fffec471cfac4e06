pub mod Alone
pub mod Handles

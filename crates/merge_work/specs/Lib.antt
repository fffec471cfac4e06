pub mod Merging
pub mod Working

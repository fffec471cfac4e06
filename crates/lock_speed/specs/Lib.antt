pub mod Visiting

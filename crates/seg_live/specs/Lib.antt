pub mod LiveDocs
pub mod Bits

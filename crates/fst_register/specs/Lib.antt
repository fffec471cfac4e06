pub mod NodeLists
pub mod Registers

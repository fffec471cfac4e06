pub mod Sections
pub mod SharedCalls
pub mod OwnViews
pub mod Offers
pub mod Offering

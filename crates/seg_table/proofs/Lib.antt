pub mod OrderLemmas
pub mod IndexLemmas
pub mod BetweenLemmas
pub mod IdLemmas
pub mod RunLemmas
pub mod CountLemmas

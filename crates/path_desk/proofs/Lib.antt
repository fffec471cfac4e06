pub mod Lex
pub mod OrderLemmas
pub mod QueueLemmas
pub mod ByteLemmas
pub mod PutLemmas
pub mod OutscoredLemmas

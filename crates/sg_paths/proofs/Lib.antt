pub mod LiveDocumentsLemmas
pub mod PathLemmas
pub mod ByteLemmas
pub mod RiseLemmas
pub mod ApartLemmas
pub mod NumberLemmas
pub mod CollectLemmas
pub mod BoundLemmas

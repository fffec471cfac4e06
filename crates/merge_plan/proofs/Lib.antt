pub mod PassLemmas
pub mod TogetherLemmas
pub mod RisingLemmas
pub mod PlanLemmas

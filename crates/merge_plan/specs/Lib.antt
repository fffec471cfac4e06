pub mod Merges
pub mod Levels
pub mod WorkedPlans
pub mod PlanLaws

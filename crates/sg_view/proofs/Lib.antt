pub mod SegmentLemmas
pub mod BuildingLemmas
pub mod DistinctLemmas
pub mod SearchedLemmas
pub mod ReportLemmas
pub mod HitLemmas
pub mod StepLemmas

pub mod CarryLemmas
pub mod ClientLemmas
pub mod CrowdLemmas
pub mod DriveLemmas

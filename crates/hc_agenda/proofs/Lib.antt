pub mod DeadlineLemmas
pub mod DueLemmas
pub mod EarliestLemmas
pub mod LoadLemmas
pub mod MomentsLaws
pub mod MomentsLemmas
pub mod PlaceLemmas
pub mod TurnLemmas

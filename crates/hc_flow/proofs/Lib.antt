pub mod FlowLemmas
pub mod MoveLemmas
pub mod PaceLemmas
pub mod PieceLemmas
pub mod WeightLemmas

pub mod ReactingLemmas
pub mod OutcomeLemmas
pub mod ReleasingLemmas

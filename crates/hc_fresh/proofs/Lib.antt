pub mod DateLemmas
pub mod DateLineLemmas
pub mod LimitLemmas

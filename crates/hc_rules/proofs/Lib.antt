pub mod PassingLemmas
mod SelectLemmas
mod ConditionLemmas
mod ForwardLemmas
mod PassedLemmas

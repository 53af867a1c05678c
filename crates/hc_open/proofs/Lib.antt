pub mod TableLemmas
pub mod GroupLemmas
pub mod WaitLemmas
pub mod CountLemmas
pub mod BehindLemmas
pub mod LinkLemmas
pub mod StartLemmas

pub mod JoinedLemmas
pub mod SplitLemmas
pub mod TableLemmas

pub mod BufferLemmas
pub mod KeepingLemmas
pub mod ReadLemmas
pub mod WritingLemmas

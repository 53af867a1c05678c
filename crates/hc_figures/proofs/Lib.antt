pub mod EntryLemmas
pub mod FigureLemmas
pub mod KindLemmas
pub mod ListedLemmas
pub mod ReadingLemmas
mod SumLemmas

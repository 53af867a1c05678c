pub mod QuotedLemmas
pub mod DirectiveLemmas
pub mod TextLemmas
pub mod KnownLemmas

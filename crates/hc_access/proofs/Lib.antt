pub mod LineLemmas
pub mod LogLemmas
pub mod AccountLemmas

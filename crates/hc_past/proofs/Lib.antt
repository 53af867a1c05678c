pub mod AskedLemmas
pub mod ForbiddenLemmas
pub mod KnownLemmas
pub mod LatestLemmas
pub mod NamingLemmas
pub mod PastLemmas
pub mod ItemLemmas

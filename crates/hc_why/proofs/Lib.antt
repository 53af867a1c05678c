pub mod DueLemmas
pub mod ExplainingLemmas
pub mod ListingLemmas
pub mod SeekingLemmas
pub mod ValidatorLemmas

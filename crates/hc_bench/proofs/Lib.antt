pub mod FeedingLemmas

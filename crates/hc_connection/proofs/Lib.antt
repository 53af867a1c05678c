pub mod ConnectionLemmas
pub mod ForwardLemmas
pub mod OrderLemmas
pub mod TellLemmas
pub mod RestingLemmas

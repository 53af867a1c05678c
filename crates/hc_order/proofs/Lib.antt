pub mod MirrorLemmas
pub mod TurnByTurnLemmas
pub mod LeavingLemmas
pub mod EndLemmas
pub mod RestLemmas
pub mod PassageLemmas

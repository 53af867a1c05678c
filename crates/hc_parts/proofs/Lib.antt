pub mod OpenLemmas
pub mod KeptLemmas
pub mod ReplyLemmas
pub mod PartLemmas
pub mod TranscriptLemmas
pub mod CountLemmas
pub mod JoinLemmas
pub mod WrongLemmas

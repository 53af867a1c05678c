pub mod ReplyLemmas
pub mod TextLemmas
pub mod WritableLemmas

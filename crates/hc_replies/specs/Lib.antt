pub mod Lines
pub mod Replies
pub mod Laws

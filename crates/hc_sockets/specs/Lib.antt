pub mod Attempts
pub mod Tokens

pub mod Values
pub mod Lines
pub mod Writing
pub mod Accounts

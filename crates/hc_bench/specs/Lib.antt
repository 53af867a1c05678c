pub mod Command
pub mod Feeding
pub mod Lines
pub mod Messages
pub mod Rates
pub mod Responses
pub mod Storing

pub mod Allowing
pub mod Auditing
pub mod Commands
pub mod Refusals
pub mod Rows
pub mod Settings
pub mod Values

pub mod Cache
pub mod Commands
pub mod Limits
pub mod Origins
pub mod Positions
pub mod Tables
pub mod Tasks

pub mod Tables
pub mod Groups
pub mod Links

pub mod Reacting
pub mod Outcomes
pub mod Releasing

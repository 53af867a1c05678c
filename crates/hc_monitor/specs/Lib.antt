pub mod Counts
pub mod Exposition

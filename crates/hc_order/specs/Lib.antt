pub mod Log
pub mod Mirrors
pub mod Passages
pub mod Passed
pub mod Resting

pub mod Parts
pub mod Orderly
pub mod Joining

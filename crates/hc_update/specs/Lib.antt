pub mod States
pub mod Identifying
pub mod Remnants
pub mod Sizes

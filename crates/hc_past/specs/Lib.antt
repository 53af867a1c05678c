pub mod Naming
pub mod Remembered
pub mod Standing

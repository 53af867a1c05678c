pub mod Facts
pub mod Heads
pub mod Hearing

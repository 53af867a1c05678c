pub mod Batches
pub mod Buffers
pub mod Clients
pub mod Keeping
pub mod Lapses
pub mod Links
pub mod Telling

pub mod Carrying
pub mod Clients
pub mod Crowds
pub mod Drives
pub mod Rounds

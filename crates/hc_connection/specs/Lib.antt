pub mod Connections
pub mod Forwards
pub mod Moves
pub mod Sides

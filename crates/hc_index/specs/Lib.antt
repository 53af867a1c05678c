pub mod Windows
pub mod Lists
pub mod Forwards
pub mod Opened
pub mod Openings
pub mod Maps

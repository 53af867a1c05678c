pub mod Rows
pub mod Standings

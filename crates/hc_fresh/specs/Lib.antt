pub mod Dates
pub mod Lifetimes
pub mod Ages
pub mod DateLines

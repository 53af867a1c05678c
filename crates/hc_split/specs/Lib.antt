pub mod Parting
pub mod Routing
pub mod Outlets
pub mod Splitting
pub mod Joined
pub mod Tables

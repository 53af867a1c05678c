pub mod Audit
pub mod Ends
pub mod Laws
pub mod Line
pub mod Minimums
pub mod Pulling
pub mod Trouble

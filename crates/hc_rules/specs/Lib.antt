pub mod Storing
pub mod Validators
pub mod Selecting
pub mod Conditions
pub mod Forwards
pub mod Laws
pub mod Passing

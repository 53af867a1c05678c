pub mod Counting
pub mod Held
pub mod Json
pub mod Kinds
pub mod Made
pub mod Told

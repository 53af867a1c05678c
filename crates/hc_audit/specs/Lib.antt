pub mod Standing
pub mod Endings
pub mod Told
pub mod Hearing
pub mod Judging
pub mod Agreement
pub mod Surveying

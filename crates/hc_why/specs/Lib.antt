pub mod Demanding
pub mod Due
pub mod Explaining
pub mod Found
pub mod Listing
pub mod Seeking

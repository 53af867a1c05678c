pub mod ArgumentLemmas
pub mod ListenLemmas

pub mod HiddenLemmas
pub mod MomentLemmas
pub mod ShownLemmas
pub mod ShowingLemmas
pub mod TextLemmas

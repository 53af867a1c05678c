pub mod FactLemmas
pub mod HearingLemmas

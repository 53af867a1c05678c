pub mod PermitLemmas
pub mod SettingLemmas
pub mod StoringLemmas
pub mod UsingLemmas

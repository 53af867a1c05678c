pub mod ScriptNumeralLemmas
pub mod ScriptLineLemmas
pub mod ScriptEventLemmas
pub mod ScriptOnceLemmas
pub mod ScriptFrontLemmas
pub mod ReplayLemmas

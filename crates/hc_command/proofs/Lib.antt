mod HeldLemmas
pub mod DocumentLemmas
pub mod EndLemmas
pub mod ReplayLemmas
pub mod ConvertLemmas
pub mod ReportLemmas
pub mod ShowLemmas

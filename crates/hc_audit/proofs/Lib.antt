pub mod JudgeLemmas
pub mod AuditorLemmas
pub mod ConversionLemmas
pub mod SurveyLemmas

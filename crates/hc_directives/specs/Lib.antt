pub mod QuotedStrings
pub mod QuotedSteps
pub mod Directives
pub mod Spellings
pub mod Known
pub mod KnownSteps
pub mod Texts

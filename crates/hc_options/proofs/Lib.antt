pub mod AuditWordLemmas
pub mod FaultLemmas
pub mod NameLemmas
pub mod ParseLemmas
pub mod RowLemmas
pub mod ValueLemmas

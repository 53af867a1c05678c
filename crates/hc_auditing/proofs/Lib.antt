pub mod AuditLemmas
pub mod PullLemmas

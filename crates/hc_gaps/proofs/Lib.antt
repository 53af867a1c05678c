pub mod AgainstLemmas
pub mod FirstLemmas
pub mod GravestLemmas
pub mod ListedLemmas
pub mod MemberLemmas
pub mod NameLemmas
pub mod TightLemmas
pub mod UnmetLemmas

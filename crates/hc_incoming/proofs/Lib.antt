pub mod CountLemmas
pub mod HeadLemmas
pub mod BeginningLemmas
pub mod RequestLemmas
pub mod RequestLaws
pub mod ResponseLemmas
pub mod ResponseLaws

mod JsonLemmas
mod KindLemmas
mod MadeLemmas

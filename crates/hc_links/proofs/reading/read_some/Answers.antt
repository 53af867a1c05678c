use Rattle.std.proofs.Common.{◌≡◌, ◌++◌, ◌∙◌, List, arith, length, subst, sym, ℕ}
use Rattle.hc_links.specs.Links.{most_octets}
use Rattle.hc_links.proofs.ReadLemmas.{few_read, front_read}
use Rattle.hc_links.proofs.reading.read_some.Goals as goal

pub returns-in-Ok-clause-given : goal.returns-in-Ok-clause-given
returns-in-Ok-clause-given g c =
    let had = c.in_ok-buffer.buffer in
    let buffer = c.read.new.buffer in
    let size : length buffer ≡ had.len = c.read.auto.buffer ∙ c.as_mut_slice.ensures.len in
    let is = front_read c.in-Ok.count had.len buffer _ c.from_vec.result size (c.from_vec.ensures ∙ c.truncate.ensures.items) in (
      few_read c.in-Ok.count had.len most_octets buffer c.from_vec.result c.in-Ok.ensures.given.0 size c.in_ok-buffer.ensures.len is,
      λ given before. subst (λ (octets : List ℕ). g.L.Link.has_given c.read.new.self (given ++ octets)) (sym is) (c.in-Ok.ensures.given.1 given before),
    )

pub returns-in-Err-clause-reads : goal.returns-in-Err-clause-reads
returns-in-Err-clause-reads g c = λ times had. (1, omega arith, c.in-Err.ensures.reads times had)

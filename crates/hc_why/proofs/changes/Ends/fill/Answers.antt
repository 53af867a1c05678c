use Rattle.std.proofs.Common.{sym, ap, ◌∙◌, map}
use Rattle.std.proofs.lemmas.List.{map-append}
use Rattle.hc_why.specs.Due.{told_by_all, told_of}
use Rattle.hc_past.specs.Remembered.{end_seen}
use Rattle.hc_why.proofs.DueLemmas.{told_append}
use Rattle.hc_why.proofs.ListingLemmas.{on_ok}
use Rattle.hc_why.proofs.changes.Ends.fill.Goals as goal

pub returns-clause-told : goal.returns-clause-told
returns-clause-told c =
    let claim = c.args.known.now.claim in
    let told = told_of c.args.self.now in
    let older = map end_seen c.as_slices.result.0.now in
    let newer = map end_seen c.as_slices.result.1.now in
    on_ok c.take_all-2.result c.take_all-2.ensures.told (λ is.
    is
    ∙ ap (λ t. told_by_all claim t newer) c.in_ok-take_all.ensures.told
    ∙ sym (told_append claim told older newer)
    ∙ ap (told_by_all claim told) (sym (map-append end_seen c.as_slices.result.0.now c.as_slices.result.1.now) ∙ ap (map end_seen) c.as_slices.ensures.items))

pub returns-clause-lists : goal.returns-clause-lists
returns-clause-lists c = λ before. c.take_all-2.ensures.lists (c.in_ok-take_all.ensures.lists before)

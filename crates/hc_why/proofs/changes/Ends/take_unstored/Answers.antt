use denote.Ref.{Bor}
use Rattle.std.proofs.Common.{◌≡◌, ap, true}
use Rattle.std.specs.Prelude.{is_some}
use Rattle.hc_past.specs.declared.past.End.{End}
use Rattle.hc_why.specs.Listing.{is_of, is_unstored}
use Rattle.hc_why.proofs.ListingLemmas.{both, on_ok, pushed}
use Rattle.hc_why.proofs.changes.Ends.take_unstored.Goals as goal

pub returns-clause-lists : goal.returns-clause-lists
returns-clause-lists c = λ nearest of before.
    let claim = c.args.claim.now in
    let end = c.args.end.now in
    let forbidden : is_some end.forbids ≡ true = ap is_some c.in-Some.is in
    on_ok c.push.result c.push.ensures.named (λ named. record {
      unstored = pushed (λ (e : Bor End). is_unstored claim e.now ≡ true) _ _ _ c.args.end named before.unstored (both (is_of claim end) (is_some end.forbids) of forbidden);
      window = before.window;
      invalidators = before.invalidators;
      not_about = before.not_about;
    })

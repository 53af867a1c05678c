use Rattle.std.proofs.Common.{◌∙◌, sym, ap, subst, Option, IfSome, IsSome}
use Rattle.std.specs.Prelude.{is_some}
use Rattle.std.specs.Option.{option_copied}
use Rattle.hc_head.specs.declared.head.Target.{Target}
use Rattle.hc_history.specs.declared.candidates.Candidate.{Candidate}
use Rattle.hc_history.specs.Candidates.{IsCandidate}
use Rattle.hc_history.specs.Claims.{Claim}
use Rattle.hc_history.specs.Seen.{live_of}
use Rattle.hc_index.specs.Lists.{state_in}
use Rattle.hc_past.proofs.NamingLemmas.{candidate_is_left}
use Rattle.hc_past.proofs.shortfalls.Nearest.read.Goals as goal

-- none is returned of a candidate whose response is left
pub returns-in_default-response-clause-there : goal.returns-in_default-response-clause-there
returns-in_default-response-clause-there g c = λ format h seen some each.
    let one = subst (λ (o : Option Candidate). IfSome o (IsCandidate c.args.claim.now h)) c.in-Some.is each in
    let left = candidate_is_left c.args.claim.now h c.in-Some.candidate one in
    let that = subst (λ (t : Target). IsSome (state_in c.in-Some.candidate.position (live_of t h))) (sym (ap (λ (claim : Claim). claim.target) c.claim.view_is)) left in
    sym (ap (λ o. is_some (option_copied o)) c.in_default-response.is) ∙ ap is_some (c.response.ensures format h seen) ∙ that

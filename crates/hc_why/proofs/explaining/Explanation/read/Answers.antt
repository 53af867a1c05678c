use denote.Ref.{Bor}
use Rattle.std.proofs.Common.{◌≡◌, ◌∙◌, ℕ, true, refl, sym, ap, subst, List, Option, Some, None, IfSome, IsSome}
use Rattle.std.specs.Prelude.{map}
use Rattle.hc_history.specs.declared.candidates.Candidate.{Candidate}
use Rattle.hc_history.specs.declared.verdicts.Finding.{Finding}
use Rattle.hc_history.specs.Candidates.{AreCandidates, IsCandidate}
use Rattle.hc_history.specs.Claims.{Claim}
use Rattle.hc_why.specs.Due.{none_told, told_by_all}
use Rattle.hc_why.specs.declared.explaining.Explanation.{Explanation}
use Rattle.hc_why.specs.declared.explaining.Way.{Way}
use Rattle.hc_past.specs.declared.past.Past.{Past}
use Rattle.hc_past.specs.declared.shortfalls.Nearest.{Nearest}
use Rattle.hc_why.specs.Explaining.{AgreesWith, Explains, IsFoundWith, carries_answer, judged_of, named_since, names_one, way_by}
use Rattle.hc_why.specs.Listing.{Lists}
use Rattle.hc_past.specs.Naming.{GetsFurthest, HasNone, IsNamed, IsPreferred, setting_by, shortfall_in}
use Rattle.hc_past.specs.Remembered.{EndSeen, end_seen, ends_of}
use Rattle.hc_past.proofs.NamingLemmas.{named_is}
use Rattle.hc_why.proofs.DueLemmas.{window_is_told}
use Rattle.hc_why.proofs.ExplainingLemmas.{both_still, candidates_are, found_agrees, listed_still, none_of_finding, of_finding, still_named, unnamed_is}
use Rattle.hc_why.proofs.ValidatorLemmas.{validator_told}
use Rattle.hc_why.proofs.explaining.Explanation.read.Goals as goal

pub returns-clause-is : goal.returns-clause-is
returns-clause-is g c = λ h behind.
    let explanation = c.fill.new.self in
    let judged = c.args.judged.now in
    let claim = c.in-Some.claim in
    let way = c.way_of-way.result in
    let old = c.in_ok-nearest.nearest in
    let filled = c.in_ok-fill.ensures in
    let leaves = filled.leaves in
    let claims = sym (c.claim.ensures h behind.index) ∙ c.in-Some.is in
    let are = subst (λ (candidates : List Candidate). AreCandidates claim h candidates) (sym c.as_slice.ensures.value)
    (candidates_are _ _ _ _ _ h _ claim (c.in_ok-candidates.ensures h behind.index) claims) in
    let gets = subst (λ (n : ℕ). IfSome c.named-candidate.result (GetsFurthest c.as_slice.result.now n)) c.named_since-bound.ensures c.named-candidate.ensures.some in
    let of_it = subst (λ (o : Option Candidate). IfSome o (GetsFurthest c.as_slice.result.now (named_since way claim))) (sym c.of_finding-of_it.ensures)
    (of_finding judged.finding c.named-candidate.result (GetsFurthest c.as_slice.result.now (named_since way claim)) gets) in
    let prefers = subst (λ (n : ℕ). IfSome c.named-candidate.result (IsPreferred claim h n)) c.named_since-bound.ensures (c.named-candidate.ensures.preferred _ h behind.index are) in
    let preferred = subst (λ (o : Option Candidate). IfSome o (IsPreferred claim h (named_since way claim))) (sym c.of_finding-of_it.ensures)
    (of_finding judged.finding c.named-candidate.result (IsPreferred claim h (named_since way claim)) prefers) in
    let first : IfSome old (IsNamed claim h (named_since way claim)) =
    named_is claim h c.as_slice.result.now (named_since way claim) _ old are of_it preferred (c.in_ok-nearest.ensures.told _ h behind.index) in
    let named : IfSome explanation.nearest (IsNamed claim h (named_since way claim)) = still_named (carries_answer explanation) _ old explanation.nearest filled.named first in
    let agrees : IfSome explanation.nearest (AgreesWith way judged.finding) =
    subst (λ (w : Way). IfSome explanation.nearest (AgreesWith w judged.finding)) (sym c.way_of-way.ensures)
    (found_agrees _ _ _ _ _ h judged.mark claim judged.finding explanation.nearest claims behind.mark behind.found
    (subst (λ (w : Way). IfSome explanation.nearest (IsNamed claim h (named_since w claim))) c.way_of-way.ensures named)) in
    let there = subst (λ (o : Option Candidate). IsSome o → IfSome o (IsCandidate claim h) → IsSome old) c.of_finding-of_it.ensures (c.in_ok-nearest.ensures.there _ h behind.index) in
    let none = subst (λ (n : ℕ). c.named-candidate.result ≡ None → Rattle.hc_past.specs.Naming.first_after n c.as_slice.result.now ≡ None) c.named_since-bound.ensures
    c.named-candidate.ensures.none in
    let nobody : names_one explanation.finding ≡ true → old ≡ None → HasNone claim h (named_since way claim) = λ one is.
    none_of_finding claim h c.as_slice.result.now (named_since way claim) judged.finding c.named-candidate.result old are gets none there
    (ap names_one (sym leaves.finding) ∙ one) is in
    let found = subst (λ (o : Option Nearest). IsFoundWith (judged_of judged) h (setting_by (shortfall_in o)) c.in_ok-with_setting.with_setting) c.as_ref.ensures.value
    (c.in_ok-with_setting.ensures h behind.index) in
    record {
      position = leaves.position;
      finding = leaves.finding;
      claim = claims ∙ ap Some (sym leaves.claim);
      way = leaves.way ∙ c.way_of-way.ensures ∙ ap (λ (k : Claim). way_by k.format judged.mark) (sym leaves.claim);
      named = subst (λ (k : Claim). IfSome explanation.nearest (IsNamed k h (named_since explanation.way k))) (sym leaves.claim)
          (subst (λ (w : Way). IfSome explanation.nearest (IsNamed claim h (named_since w claim))) (sym leaves.way) named);
      agrees = subst (λ (f : Finding). IfSome explanation.nearest (AgreesWith explanation.way f)) (sym leaves.finding)
          (subst (λ (w : Way). IfSome explanation.nearest (AgreesWith w judged.finding)) (sym leaves.way) agrees);
      unnamed = unnamed_is (carries_answer explanation) (names_one explanation.finding) old explanation.nearest
          (HasNone explanation.claim h (named_since explanation.way explanation.claim)) filled.named
          (λ one is.
          subst (λ (k : Claim). HasNone k h (named_since explanation.way k)) (sym leaves.claim)
          (subst (λ (w : Way). HasNone claim h (named_since w claim)) (sym leaves.way) (nobody one is)));
      stale = filled.stale;
      with_setting = both_still (carries_answer explanation) (λ o f. IsFoundWith (judged_of judged) h (setting_by (shortfall_in o)) f) old explanation.nearest
          c.in_ok-with_setting.with_setting explanation.with_setting filled.named filled.with_setting refl found;
      came = filled.came;
      lists = listed_still (carries_answer explanation) (λ o. Lists explanation.claim o explanation.ends) old explanation.nearest filled.named filled.lists;
    }

all_ends : (explanation : Explanation) (past : Bor Past) (ends : List EndSeen) → explanation.past ≡ past → map end_seen past.now.ends.items ≡ ends
    → map end_seen explanation.past.now.ends.items ≡ ends
all_ends explanation past ends is all = ap (λ (p : Bor Past). map end_seen p.now.ends.items) is ∙ all

pub returns-clause-past : goal.returns-clause-past
returns-clause-past g c = ap (λ (p : Bor Past). p.now) c.in_ok-fill.ensures.leaves.past

pub returns-clause-told : goal.returns-clause-told
returns-clause-told g c = λ h target behind past path.
    let explanation = c.fill.new.self in
    c.in_ok-fill.ensures.told
    ∙ ap (told_by_all explanation.claim none_told) (all_ends explanation c.args.past (ends_of target.path h) c.in_ok-fill.ensures.leaves.past past.all)
    ∙ window_is_told explanation.claim target.path h path

pub returns-clause-validator : goal.returns-clause-validator
returns-clause-validator g c = λ h target behind past path.
    let explanation = c.fill.new.self in
    let is : Explains (judged_of c.args.judged.now) h explanation = returns-clause-is g c h behind in
    validator_told explanation.claim target.path h (named_since explanation.way explanation.claim) explanation.nearest (map end_seen explanation.past.now.ends.items) _ path
    (all_ends explanation c.args.past (ends_of target.path h) c.in_ok-fill.ensures.leaves.past past.all) is.named c.in_ok-fill.ensures.validator

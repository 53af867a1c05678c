-- What is known of a reply that is explained.
use denote.Ref.{Bor}
use Rattle.std.proofs.Common.{map, ◌≡◌, ℕ, suc, ◌≤◌, Bool, true, false, List, Option, Some, None, IfSome, IsSome, refl, sym, ap, ◌∙◌, subst, arith, ◌⊎◌, inl, inr}
use Rattle.std.specs.Prelude.{is_some, option_copied, unwrap_or, not, ◌||◌, if◌then◌else◌}
use Rattle.std.specs.Option.{option_map}
use Rattle.std.proofs.lemmas.Bool.{cases_lt}
use Rattle.hc_head.specs.declared.head.ResponseHead.{ResponseHead}
use Rattle.hc_framing.specs.declared.message.Message.{Message}
use Rattle.hc_status.specs.declared.marks.Mark.{Mark}
use Rattle.hc_status.specs.declared.marks.Mark.TheVariants as mark
use Rattle.hc_transcript.specs.declared.format.Format.{Format}
use Rattle.hc_transcript.specs.Items.{Exchange, Item}
use Rattle.hc_history.specs.declared.among.Among.TheVariants.{Any, InWindow}
use Rattle.hc_history.specs.declared.candidates.Candidate.{Candidate}
use Rattle.hc_history.specs.declared.reasons.Reason.{Reason}
use Rattle.hc_history.specs.declared.settings.Settings.{Settings}
use Rattle.hc_history.specs.declared.verdicts.Finding.{Finding}
use Rattle.hc_history.specs.declared.verdicts.Finding.TheVariants.{Right, Wrong}
use Rattle.hc_history.specs.Candidates.{AreCandidates, AreCandidatesOf, IsCandidate}
use Rattle.hc_history.specs.Claims.{Claim, claim_of}
use Rattle.hc_history.specs.Marks.{mark_to}
use Rattle.hc_history.specs.Reused.{Pass, collapsed_count, filter_count, forwarded_count}
use Rattle.hc_history.specs.Right.{CarriesStored, IsFinding, IsFoundBy, IsWrongForwarded, is_judged_collapsed}
use Rattle.hc_why.specs.declared.explaining.Way.TheVariants.{Forwarded, Collapsed}
use Rattle.hc_past.specs.declared.shortfalls.Nearest.{Nearest}
use Rattle.hc_head.specs.declared.head.Target.{Target}
use Rattle.hc_past.specs.declared.past.Past.{Past}
use Rattle.hc_past.specs.Remembered.{EndSeen, end_seen}
use Rattle.hc_why.specs.declared.changes.Ends.{Ends}
use Rattle.hc_why.specs.declared.explaining.Way.{Way}
use Rattle.hc_why.specs.Due.{name_of_end, place_among, place_of_end, validated_in}
use Rattle.hc_why.specs.Explaining.{AgreesWith, carries_other, named_since, names_one, way_by}
use Rattle.hc_past.specs.Naming.{GetsFurthest, HasNone, IsNamed, first_after, reason_told}
use Rattle.hc_past.proofs.NamingLemmas.{breaks_none, breaks_some, it_passes, it_passes_too, none_named, wrong_hit}

-- ---- which response is named

-- the candidates are those of what the reply claims
pub candidates_are : (format : Format) (settings : Settings) (exchange : Option Exchange) (moment : ℕ) (reply : Message ResponseHead) (h : List Item)
    (candidates : List Candidate) (claim : Claim) → AreCandidatesOf format settings exchange moment reply h candidates
    → option_map (λ opened. claim_of format settings opened moment reply h) exchange ≡ Some claim → AreCandidates claim h candidates
candidates_are format settings None moment reply h candidates claim are is = cc
candidates_are format settings (Some opened) moment reply h candidates claim are is =
    subst (λ (c : Claim). AreCandidates c h candidates) (ap (λ (o : Option Claim). unwrap_or o claim) is) are

-- ---- what is told of it, and what is found of the reply

right_hit : (claim : Claim) (h : List Item) (nearest : Nearest) → IsNamed claim h 0 nearest → Pass filter_count Any claim h → reason_told nearest ≡ None
right_hit claim h nearest named all =
    breaks_none named.candidate.passed nearest.shortfall named.is_that.rule
    (it_passes_too filter_count claim h named.candidate named.is_furthest (omega arith) (omega arith) all)

-- what went forward, and is wrong, is named with one that doesn't pass all
not_all : (n : ℕ) → (filter_count ≤ n → ⊥) → suc n ≤ filter_count
not_all n none = elim (cases_lt n filter_count) [ inl lt ↦ omega (arith, lt) | inr ge ↦ absurd (none (omega (arith, ge))) ]

stored_by : (inferred : Bool) (claim : Claim) (h : List Item) (c : Candidate) → IsCandidate claim h c → filter_count ≤ c.passed → CarriesStored inferred claim h
stored_by false claim h c is all = it_passes forwarded_count Any claim h c is refl (omega arith) (omega (arith, all))
stored_by true claim h c is all = inl (it_passes filter_count Any claim h c is refl (omega arith) all)

wrong_forwarded : (collapsed : Bool) (claim : Claim) (h : List Item) (why : Reason) (nearest : Nearest)
    → IsNamed claim h (named_since (if collapsed then Collapsed else Forwarded) claim) nearest → IsWrongForwarded collapsed claim h why → IsSome nearest.shortfall
wrong_forwarded true claim h why nearest named wrong =
    let c = named.candidate in
    let is = named.is_furthest in
    breaks_some c.passed nearest.shortfall named.is_that.rule
    (not_all c.passed (λ all. wrong.1 (it_passes collapsed_count InWindow claim h c is.is_candidate is.after (omega arith) (omega (arith, all)))))
wrong_forwarded false claim h why nearest named wrong =
    let c = named.candidate in
    breaks_some c.passed nearest.shortfall named.is_that.rule
    (not_all c.passed (λ all. wrong.1.1 (stored_by claim.is_inferred claim h c named.is_furthest.is_candidate all)))

forwarded_agrees : (collapsed : Bool) (claim : Claim) (h : List Item) (why : Reason) (nearest : Nearest)
    → IsNamed claim h (named_since (if collapsed then Collapsed else Forwarded) claim) nearest → IsWrongForwarded collapsed claim h why
    → AgreesWith (if collapsed then Collapsed else Forwarded) (Wrong why) nearest
forwarded_agrees true claim h why nearest named wrong = wrong_forwarded true claim h why nearest named wrong
forwarded_agrees false claim h why nearest named wrong = wrong_forwarded false claim h why nearest named wrong

right_agrees : (collapsed : Bool) (nearest : Nearest) → AgreesWith (if collapsed then Collapsed else Forwarded) Right nearest
right_agrees true nearest = tt
right_agrees false nearest = tt

agrees : (m : Mark) (claim : Claim) (h : List Item) (finding : Finding) (nearest : Nearest) → IsNamed claim h (named_since (way_by claim.format m) claim) nearest
    → IsFoundBy m claim h finding → AgreesWith (way_by claim.format m) finding nearest
agrees (mark.Hit ttl) claim h Right nearest named found = right_hit claim h nearest named found
agrees (mark.Hit ttl) claim h (Wrong why) nearest named found = wrong_hit claim h why nearest named found
agrees (mark.Forwarded collapsed) claim h Right nearest named found = right_agrees (is_judged_collapsed claim.format collapsed) nearest
agrees (mark.Forwarded collapsed) claim h (Wrong why) nearest named found = forwarded_agrees (is_judged_collapsed claim.format collapsed) claim h why nearest named found
agrees mark.Both claim h finding nearest named found = tt
agrees mark.Unmarked claim h finding nearest named found = tt

-- of a reply to the exchange that it answers
pub found_agrees : (format : Format) (settings : Settings) (exchange : Option Exchange) (moment : ℕ) (reply : Message ResponseHead) (h : List Item)
    (m : Mark) (claim : Claim) (finding : Finding) (nearest : Option Nearest)
    → option_map (λ opened. claim_of format settings opened moment reply h) exchange ≡ Some claim → m ≡ mark_to format settings exchange reply h
    → IsFinding format settings exchange moment reply h finding → IfSome nearest (IsNamed claim h (named_since (way_by claim.format m) claim))
    → IfSome nearest (AgreesWith (way_by claim.format m) finding)
found_agrees format settings None moment reply h m claim finding nearest is marked found named = cc
found_agrees format settings (Some opened) moment reply h m claim finding None is marked found named = tt
found_agrees format settings (Some opened) moment reply h m claim finding (Some nearest) is marked found named =
    let same : claim_of format settings opened moment reply h ≡ claim = ap (λ (o : Option Claim). unwrap_or o claim) is in
    agrees m claim h finding nearest named
    (subst (λ (k : Mark). IsFoundBy k claim h finding) (sym marked)
    (subst (λ (c : Claim). IsFoundBy (mark_to format settings (Some opened) reply h) c h finding) same found))

-- ---- what is kept of it as an explanation is filled

-- one that may be named of that finding
pub of_finding : (finding : Finding) (candidate : Option Candidate) (P : Candidate → Type 0) → IfSome candidate P → IfSome (if names_one finding then candidate else None) P
of_finding finding candidate P is = go (names_one finding)
  where
    go : (b : Bool) → IfSome (if b then candidate else None) P
    go true = is
    go false = tt

-- it is named still, or none is
pub still_named : (gone : Bool) (P : Nearest → Type 0) (old new : Option Nearest) → new ≡ (if gone then None else old) → IfSome old P → IfSome new P
still_named true P old new is was = subst (λ (o : Option Nearest). IfSome o P) (sym is) tt
still_named false P old new is was = subst (λ (o : Option Nearest). IfSome o P) (sym is) was

-- none is named still where none was, and else the one that was named first
pub named_first : {X : Type 0} (a b : Bool) (new old first : Option X) → a ≡ b → new ≡ (if b then None else old) → old ≡ first → new ≡ (if a then None else first)
named_first {X} a b new old first same is was = is ∙ ap (λ (o : Option X). if b then None else o) was ∙ ap (λ (c : Bool). if c then None else first) (sym same)

-- what is found, the way and the ends say whether it carries what came in its window
pub carries_same : (f g : Finding) (w x : Way) (d e : Ends) → f ≡ g → w ≡ x → d ≡ e
    → carries_other f w (is_some (name_of_end (option_copied d.carried))) ≡ carries_other g x (is_some (name_of_end (option_copied e.carried)))
carries_same f g w x d e found way ends =
    ap (λ (z : Finding). carries_other z w (is_some (name_of_end (option_copied d.carried)))) found
    ∙ ap (λ (y : Way). carries_other g y (is_some (name_of_end (option_copied d.carried)))) way
    ∙ ap (λ (k : Ends). carries_other g x (is_some (name_of_end (option_copied k.carried)))) ends

validated_if : (o : Option Nearest) (place : Option ℕ) (target : Target) (ends : List EndSeen) → place ≡ place_among target (validated_in o) ends
    → IfSome o (λ nearest. place ≡ place_among target nearest.state.now.validated_at ends)
validated_if None place target ends is = tt
validated_if (Some nearest) place target ends is = is

-- the end by which the response was validated last is so still, of the same claim, past and ends
pub validated_still : (gone : Bool) (old new : Option Nearest) (k l : Claim) (p q : Bor Past) (d e : Ends) → new ≡ (if gone then None else old)
    → k ≡ l → p ≡ q → d ≡ e → place_of_end (option_copied e.validator) ≡ place_among l.target (validated_in old) (map end_seen q.now.ends.items)
    → IfSome new (λ nearest. place_of_end (option_copied d.validator) ≡ place_among k.target nearest.state.now.validated_at (map end_seen p.now.ends.items))
validated_still gone old new k l p q d e stays claims pasts ends is =
    still_named gone (λ (nearest : Nearest). place_of_end (option_copied d.validator) ≡ place_among k.target nearest.state.now.validated_at (map end_seen p.now.ends.items))
    old new stays
    (validated_if old (place_of_end (option_copied d.validator)) k.target (map end_seen p.now.ends.items)
    (ap (λ (x : Ends). place_of_end (option_copied x.validator)) ends
    ∙ is
    ∙ ap (λ (c : Claim). place_among c.target (validated_in old) (map end_seen q.now.ends.items)) (sym claims)
    ∙ ap (λ (r : Bor Past). place_among k.target (validated_in old) (map end_seen r.now.ends.items)) (sym pasts)))

-- what is so of none is so of it still, if it was
pub both_still : (gone : Bool) (P : Option Nearest → Option Finding → Type 0) (old new : Option Nearest) (was is : Option Finding)
    → new ≡ (if gone then None else old) → is ≡ (if gone then None else was) → P None None → P old was → P new is
both_still true P old new was is new-is is-is none some = subst (λ (f : Option Finding). P new f) (sym is-is) (subst (λ (o : Option Nearest). P o None) (sym new-is) none)
both_still false P old new was is new-is is-is none some = subst (λ (f : Option Finding). P new f) (sym is-is) (subst (λ (o : Option Nearest). P o was) (sym new-is) some)

-- where none is named, that is why
pub unnamed_is : (gone one : Bool) (old new : Option Nearest) (X : Type 0) → new ≡ (if gone then None else old) → (one ≡ true → old ≡ None → X) → new ≡ None
    → X ⊎ ((not one || gone) ≡ true)
unnamed_is true true old new X is none new-is = inr refl
unnamed_is true false old new X is none new-is = inr refl
unnamed_is false true old new X is none new-is = inl (none refl (sym is ∙ new-is))
unnamed_is false false old new X is none new-is = inr refl

pub none_of_finding : (claim : Claim) (h : List Item) (candidates : List Candidate) (since : ℕ) (finding : Finding) (candidate : Option Candidate) (nearest : Option Nearest)
    → AreCandidates claim h candidates → IfSome candidate (GetsFurthest candidates since) → (candidate ≡ None → first_after since candidates ≡ None)
    → (IsSome (if names_one finding then candidate else None) → IfSome (if names_one finding then candidate else None) (IsCandidate claim h) → IsSome nearest)
    → names_one finding ≡ true → nearest ≡ None → HasNone claim h since
none_of_finding claim h candidates since finding candidate nearest are gets none there one is =
    let same : (if names_one finding then candidate else None) ≡ candidate = ap (λ (b : Bool). if b then candidate else None) one in
    none_named claim h candidates since (if names_one finding then candidate else None) nearest are
    (of_finding finding candidate (GetsFurthest candidates since) gets) (λ empty. none (sym same ∙ empty)) there is

-- what is listed for it, while it is named
pub listed_still : (gone : Bool) (L : Option Nearest → Type 0) (old new : Option Nearest) → new ≡ (if gone then None else old) → L old → IfSome new (λ n. L (Some n))
listed_still true L old None is was = tt
listed_still true L old (Some n) is was = cc
listed_still false L old None is was = tt
listed_still false L old (Some n) is was = subst L (sym is) was

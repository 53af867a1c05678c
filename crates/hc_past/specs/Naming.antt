-- Which response is named with a reply, and in what it falls short.
use Rattle.std.specs.Prelude.{◌≡◌, ⊤, ℕ, ◌≤◌, ◌==◌, ◌&&◌, Bool, true, false, nat_lt, find, List, Option, Some, None, IfSome, Contains}
use Rattle.std.specs.Option.{option_map}
use Rattle.hc_transcript.specs.Items.{Item}
use Rattle.hc_update.specs.declared.stored.Stored.{Stored}
use Rattle.hc_history.specs.declared.candidates.Candidate.{Candidate}
use Rattle.hc_history.specs.declared.reasons.Reason.{Reason}
use Rattle.hc_history.specs.declared.reasons.Reason.TheVariants as reason
use Rattle.hc_history.specs.Candidates.{IsCandidate}
use Rattle.hc_history.specs.Claims.{Claim}
use Rattle.hc_history.specs.Seen.{live_of}
use Rattle.hc_index.specs.Lists.{state_in}
use Rattle.hc_use.specs.declared.rules.Rule.{Rule}
use Rattle.hc_use.specs.declared.rules.Rule.TheVariants as rule
use Rattle.hc_use.specs.declared.stale.Setting.{Setting}
use Rattle.hc_use.specs.Aging.{IsAgeGap, ttl_gap_of}
use Rattle.hc_gaps.specs.Contents.{IsContentGap, has_body}
use Rattle.hc_gaps.specs.Differing.{AreDifferences}
use Rattle.hc_use.specs.Rules.{IsRuleBehind, reason_of}
use Rattle.hc_gaps.specs.Selecting.{AreUnmet}
use Rattle.hc_use.specs.Using.{usage_of}
use Rattle.hc_past.specs.declared.shortfalls.Nearest.{Nearest}
use Rattle.hc_past.specs.declared.shortfalls.Shortfall.{Shortfall}
use Rattle.hc_past.specs.declared.shortfalls.Shortfall.TheVariants.{Asked, Selected, Valid, Lifetime, Use, Body, Fields, Age, Ttl}

-- ---- in what a response falls short

-- the rule that it breaks
abbrev pub rule_of : Shortfall → Rule
rule_of Asked = rule.Asked
rule_of (Selected selection) = rule.Selected
rule_of Valid = rule.Valid
rule_of (Lifetime usage) = rule.Lifetime
rule_of (Use usage) = rule.Use
rule_of (Body gap) = rule.Body
rule_of (Fields found) = rule.Fields
rule_of (Age gap) = rule.Age
rule_of (Ttl gap) = rule.Ttl

-- what is told of it is so of this claim and this response: its age and lifetime and what forbids to use it, both statuses and in what the bodies differ, the members and the fields that differ, the seconds that are due
abbrev pub IsShortfall : Claim → Stored → Shortfall → Type 0
IsShortfall claim state Asked = ⊤
IsShortfall claim state (Selected selection) = AreUnmet claim state selection
IsShortfall claim state Valid = ⊤
IsShortfall claim state (Lifetime usage) = usage ≡ usage_of claim state
IsShortfall claim state (Use usage) = usage ≡ usage_of claim state
IsShortfall claim state (Body gap) = IsContentGap claim state gap
IsShortfall claim state (Fields found) = AreDifferences claim state found
IsShortfall claim state (Age gap) = IsAgeGap claim state gap
IsShortfall claim state (Ttl gap) = gap ≡ ttl_gap_of claim state

-- the reason of a reply that is wrong by what is told of it
abbrev pub reason_told : Nearest → Option Reason
reason_told nearest = option_map (λ shortfall. reason_of (rule_of shortfall)) nearest.shortfall

-- the setting by which a response may be used that falls short so, if there is one
abbrev pub setting_by : Option Shortfall → Option Setting
setting_by None = None
setting_by (Some Asked) = None
setting_by (Some (Selected selection)) = None
setting_by (Some Valid) = None
setting_by (Some (Lifetime usage)) = usage.setting
setting_by (Some (Use usage)) = usage.setting
setting_by (Some (Body gap)) = None
setting_by (Some (Fields found)) = None
setting_by (Some (Age gap)) = None
setting_by (Some (Ttl gap)) = None

-- in what it falls short, if there is one, and it does
abbrev pub shortfall_in : Option Nearest → Option Shortfall
shortfall_in None = None
shortfall_in (Some nearest) = nearest.shortfall

-- ---- which response is named

-- one is named of a reply that is wrong for that reason: not where there is none, nor where its mark is what is wrong
abbrev pub names_response : Reason → Bool
names_response reason.NoResponse = false
names_response reason.Unmarked = false
names_response reason.BothMarks = false
names_response other = true

-- the position behind which it stands: that of the request, where the reply is wrong as one that was collapsed
abbrev pub named_after : Reason → Claim → ℕ
named_after reason.NotCollapsible claim = claim.since
named_after other claim = 0

-- the first of the candidates behind a position: where they are in order, none of these gets further
abbrev pub first_after : ℕ → List Candidate → Option Candidate
first_after since candidates = find (λ one. nat_lt since one.position) candidates

-- whether a response has the reply's body, or the reply none where the request is HEAD; what isn't left has none
abbrev pub state_has_body : Claim → Option Stored → Bool
state_has_body claim None = false
state_has_body claim (Some state) = has_body claim.request.method claim.reply.body state.body

-- whether the response at a position has it, as the history has left it
abbrev pub has_its_body : Claim → List Item → ℕ → Bool
has_its_body claim h position = state_has_body claim (state_in position (live_of claim.target h))

-- whether one stands behind that position, gets so far, and has the reply's body
abbrev pub has_all : Claim → List Item → ℕ → ℕ → Candidate → Bool
has_all claim h since passed one = nat_lt since one.position && one.passed == passed && has_its_body claim h one.position

-- the first of them that does
abbrev pub first_with_body : Claim → List Item → ℕ → ℕ → List Candidate → Option Candidate
first_with_body claim h since passed candidates = find (has_all claim h since passed) candidates

-- it is one of them, stands behind that position, and gets so far
pub record IsOneOf (candidates : List Candidate) (since passed : ℕ) (one : Candidate) : Type 0 where
  pub among : Contains candidates one
  pub after : nat_lt since one.position ≡ true
  pub gets : one.passed ≡ passed

-- it is one of them, stands behind that position, and gets as far as the first
pub record GetsFurthest (candidates : List Candidate) (since : ℕ) (one : Candidate) : Type 0 where
  pub among : Contains candidates one
  pub after : nat_lt since one.position ≡ true
  pub furthest : option_map (λ first. first.passed) (first_after since candidates) ≡ Some one.passed

-- a response of the claim's target that may be stored stands there, behind that position, and no other one behind it gets further
pub record IsFurthest (claim : Claim) (h : List Item) (since : ℕ) (one : Candidate) : Type 0 where
  pub is_candidate : IsCandidate claim h one
  pub after : nat_lt since one.position ≡ true
  pub furthest : (other : Candidate) → IsCandidate claim h other → nat_lt since other.position ≡ true → other.passed ≤ one.passed

-- of two that get as far one takes the place of the other: it has the reply's body where the other one has it, and if both have it, or both lack it, it is no older
pub record IsRather (claim : Claim) (h : List Item) (one other : Candidate) : Type 0 where
  pub body : has_its_body claim h other.position ≡ true → has_its_body claim h one.position ≡ true
  pub newer : has_its_body claim h other.position ≡ has_its_body claim h one.position → other.position ≤ one.position

-- it is named rather than any other response that stands there, behind that position, and gets as far
abbrev pub IsPreferred : Claim → List Item → ℕ → Candidate → Type 0
IsPreferred claim h since one =
    (other : Candidate) → IsCandidate claim h other → nat_lt since other.position ≡ true → other.passed ≡ one.passed → IsRather claim h one other

-- none stands behind it
abbrev pub HasNone : Claim → List Item → ℕ → Type 0
HasNone claim h since = (other : Candidate) → IsCandidate claim h other → nat_lt since other.position ≡ false

-- it is that candidate: what the history has left of the response there, and the rule behind those that it keeps, with what is told of that
pub record IsThatCandidate (claim : Claim) (h : List Item) (candidate : Candidate) (nearest : Nearest) : Type 0 where
  pub position : nearest.position ≡ candidate.position
  pub state : state_in candidate.position (live_of claim.target h) ≡ Some nearest.state.now
  pub rule : IsRuleBehind candidate.passed (option_map rule_of nearest.shortfall)
  pub told : IfSome nearest.shortfall (IsShortfall claim nearest.state.now)

-- the same of the candidate that is named, if one is
abbrev pub IsThatOf : Claim → List Item → Option Candidate → Nearest → Type 0
IsThatOf claim h named nearest = (candidate : Candidate) × (named ≡ Some candidate) × IsThatCandidate claim h candidate nearest

-- it stands in the history at its position, behind that one, is of the claim's target, may be stored, gets as far as any other there, is preferred to those that get as
-- far, and keeps exactly the rules before the one that is told
pub record IsNamed (claim : Claim) (h : List Item) (since : ℕ) (nearest : Nearest) : Type 0 where
  pub candidate : Candidate
  pub is_furthest : IsFurthest claim h since candidate
  pub is_preferred : IsPreferred claim h since candidate
  pub is_that : IsThatCandidate claim h candidate nearest

-- it is that of one of these candidates, which stands behind that position, and gets as far as the first of them there
pub record IsOfOneOf (claim : Claim) (h : List Item) (candidates : List Candidate) (since : ℕ) (nearest : Nearest) : Type 0 where
  pub candidate : Candidate
  pub gets : GetsFurthest candidates since candidate
  pub is_that : IsThatCandidate claim h candidate nearest

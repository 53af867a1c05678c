-- Whether a reply carries one earlier response.
use Rattle.std.specs.Prelude.{◌≡◌, ℕ, ◌≤◌, ◌<◌, Bool, true, ◌&&◌, ◌||◌, not, nat_lt, List, take, Some}
use Rattle.std.specs.List.{list_all}
use Rattle.hc_transcript.specs.Items.{Item}
use Rattle.hc_update.specs.declared.stored.Stored.{Stored}
use Rattle.hc_history.specs.Claims.{Claim}
use Rattle.hc_history.specs.declared.among.Among.{Among}
use Rattle.hc_history.specs.declared.among.Among.TheVariants.{Any, InWindow, Recent}
use Rattle.hc_history.specs.declared.kept.Kept.{Kept}
use Rattle.hc_history.specs.States.{state_at}
use Rattle.hc_history.specs.Usable.{validated_since}
use Rattle.hc_history.specs.Allowing.{filters}

-- whether the response at a position is one of those among which is looked: any earlier one, one that came in the window, or one that came there or was validated
-- there. What was validated and is invalid now makes no reply right, by the third filter; it is left out, so that an index may forget when it was validated
abbrev pub is_looked_at : Among → Claim → ℕ → Stored → Bool
is_looked_at Any claim position state = true
is_looked_at InWindow claim position state = nat_lt claim.since position
is_looked_at Recent claim position state = nat_lt claim.since position || (not state.invalid && validated_since claim.since state.validated_at)

-- there is one response among those, before the reply, of which the first n filters hold
pub record Pass (n : ℕ) (among : Among) (claim : Claim) (h : List Item) : Type 0 where
  pub position : ℕ
  pub kept : Kept
  pub is_one : is_looked_at among claim position kept.state ≡ true
  pub is_its_state : state_at position h ≡ Some kept
  pub holds : list_all (λ b. b) (take n (filters claim kept)) ≡ true

-- the number of filters
abbrev pub filter_count : ℕ
filter_count = 9

-- how many of them a reply passes that went forward and carries a stored response, freshened by a 304 or in place of an error
abbrev pub forwarded_count : ℕ
forwarded_count = 7

-- how many of them a reply passes that was collapsed: all but the last, since the mark of one that went forward has no seconds
abbrev pub collapsed_count : ℕ
collapsed_count = 8

-- the reply is one earlier response, reused: of one and the same response all filters hold
abbrev pub IsReused : Claim → List Item → Type 0
IsReused claim h = Pass filter_count Any claim h

-- the first filter that leaves nobody
pub record IsFirstFailed (n : ℕ) (claim : Claim) (h : List Item) : Type 0 where
  pub is_filter : (1 ≤ n) × (n ≤ filter_count)
  pub leaves_nobody : Pass n Any claim h → ⊥
  pub earlier : (k : ℕ) → 1 ≤ k → k < n → Pass k Any claim h

-- of one and the same response in the reply's window all filters hold but that of the seconds
abbrev pub IsCollapsible : Claim → List Item → Type 0
IsCollapsible claim h = Pass collapsed_count InWindow claim h

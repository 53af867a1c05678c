-- The places at the origin.
use Rattle.std.specs.Prelude.{◌≡◌, ◌+◌, ◌-◌, ◌/◌, ◌<◌, ◌≤◌, ◌⊎◌, ◌==◌, ℕ, Bool, true, false, if◌then◌else◌, List, [], ◌∷◌, length, Option, Some, None, is_some}
use Rattle.std.specs.BTreeMap.{get}
use Rattle.std.specs.Ordering.{nat_cmp}
use Rattle.hc_agenda.specs.declared.places.PlaceCandidate.{PlaceCandidate}
use Rattle.hc_agenda.specs.declared.places.Places.{Places}

-- how many places there are
abbrev pub places_in_all : Places → ℕ
places_in_all places = places.most

-- how many of them were given
abbrev pub places_given : Places → ℕ
places_given places = length places.given.entries

-- whether that forward has a place
abbrev pub has_place : ℕ → Places → Bool
has_place f places = is_some (get nat_cmp places.given f)

-- a place is left
abbrev pub HasPlaceLeft : Places → Type 0
HasPlaceLeft places = places_given places < places_in_all places

-- none is left
abbrev pub IsFull : Places → Type 0
IsFull places = places_in_all places ≤ places_given places

-- how many of the places those may have that nobody awaits: half of them, or the larger half
abbrev pub half_of : Places → ℕ
half_of places = places_in_all places - places_in_all places / 2

-- none is left for those that nobody awaits: they have their half, or no place is left at all
abbrev pub NoPlaceIsLeftBehind : Places → Type 0
NoPlaceIsLeftBehind places = IsFull places ⊎ (half_of places ≤ places.background)

-- the same forwards have places, and there are as many as before
pub record KeepsPlaces (before after : Places) : Type 0 where
  pub all : places_in_all after ≡ places_in_all before
  pub given : places_given after ≡ places_given before
  pub same : (f : ℕ) → has_place f after ≡ has_place f before

-- ---- who waits

-- the forwards that were opened and aren't sorted yet, the first one first
abbrev pub opened_in : Places → List ℕ
opened_in places = places.opened.items

-- those that wait and are awaited
abbrev pub awaited_in : Places → List ℕ
awaited_in places = places.awaited.items

-- those that wait and that nobody awaits
abbrev pub unawaited_in : Places → List ℕ
unawaited_in places = places.unawaited.items

-- the line of those that nobody awaits, or the other one
abbrev pub line_of : (background : Bool) → Places → List ℕ
line_of false places = awaited_in places
line_of true places = unawaited_in places

-- how many wait
abbrev pub count_waiting : Places → ℕ
count_waiting places = length (awaited_in places) + length (unawaited_in places)

-- the same forwards are in each line, in the same order
pub record KeepsLines (before after : Places) : Type 0 where
  pub opened : opened_in after ≡ opened_in before
  pub awaited : awaited_in after ≡ awaited_in before
  pub unawaited : unawaited_in after ≡ unawaited_in before

-- at most which forwards were opened and aren't sorted has changed
abbrev pub ChangesOpened : Places → Places → Type 0
ChangesOpened before after = after ≡ record before { opened = after.opened }

-- at most the line of those that nobody awaits has changed, or the other one
abbrev pub ChangesLine : (background : Bool) → Places → Places → Type 0
ChangesLine false before after = after ≡ record before { awaited = after.awaited }
ChangesLine true before after = after ≡ record before { unawaited = after.unawaited }

-- the first one of a line, if there is one
abbrev pub first_in : List ℕ → Option ℕ
first_in [] = None
first_in (first ∷ rest) = Some first

-- the first one of a line is taken out, if there is one
abbrev pub TakesForward : Option ℕ → List ℕ → List ℕ → Type 0
TakesForward None before after = (before ≡ []) × (after ≡ [])
TakesForward (Some first) before after = before ≡ first ∷ after

-- a line without its first one, if that is this forward
abbrev pub without_first : ℕ → List ℕ → List ℕ
without_first forward [] = []
without_first forward (first ∷ rest) = if first == forward then rest else first ∷ rest

-- ---- who is next

-- it is the first of those that nobody awaits; there is none where they have their half, or none of them waits
abbrev pub IsNextBehind : Places → Option PlaceCandidate → Type 0
IsNextBehind places None = (unawaited_in places ≡ []) ⊎ (half_of places ≤ places.background)
IsNextBehind places (Some candidate) = (candidate.background ≡ true) × (places.background < half_of places) × (first_in (unawaited_in places) ≡ Some candidate.forward)

-- a forward is the first of those that are awaited; or none of these waits, and it is the first of the others, which have less than their half
abbrev pub IsFirstOf : (background : Bool) → Places → ℕ → Type 0
IsFirstOf false places forward = first_in (awaited_in places) ≡ Some forward
IsFirstOf true places forward = (awaited_in places ≡ []) × (places.background < half_of places) × (first_in (unawaited_in places) ≡ Some forward)

-- it is the next forward that may have a place; there is none where no place is left, or none for those that wait
abbrev pub IsNext : Places → Option PlaceCandidate → Type 0
IsNext places None = IsFull places ⊎ ((awaited_in places ≡ []) × ((unawaited_in places ≡ []) ⊎ NoPlaceIsLeftBehind places))
IsNext places (Some candidate) = HasPlaceLeft places × IsFirstOf candidate.background places candidate.forward

-- the next forward is taken out of its line, and nothing else has changed
pub record TakesCandidate (candidate : PlaceCandidate) (before after : Places) : Type 0 where
  pub only : ChangesLine candidate.background before after
  pub first : line_of candidate.background before ≡ candidate.forward ∷ line_of candidate.background after
  pub fewer : count_waiting after + 1 ≡ count_waiting before

-- the same, where there is one; else nothing has changed
abbrev pub TakesNext : Option PlaceCandidate → Places → Places → Type 0
TakesNext None before after = after ≡ before
TakesNext (Some candidate) before after = TakesCandidate candidate before after

-- What a reader of heads answers, for requests and responses alike.
use Rattle.std.specs.Prelude.{◌≡◌, ℕ, ◌≤◌, ◌<◌, Bool, true, false, List, ◌++◌, length, take, Result, Ok, Err}
use Rattle.hc_head.specs.declared.fault.HeadFault.{HeadFault}
use Rattle.hc_head.specs.declared.fault.HeadFault.TheVariants.{Syntax, TooManyFields, TooLong, Host, Target, Memory}
use Rattle.hc_head.specs.declared.head.Room.{Room}
use Rattle.hc_head.specs.declared.head.Step.{Step}
use Rattle.hc_head.specs.declared.head.Step.TheVariants.{More, Whole}

module _ {H : Type 0} (Begins : List ℕ → H → ℕ → Type 0) (field_count : H → ℕ) where
  -- the octets begin with the head, which keeps to the room
  pub record IsWholeHead (octets : List ℕ) (room : Room) (head : H) (len : ℕ) : Type 0 where
    pub begins : Begins octets head len
    pub octets_fit : len ≤ room.octets
    pub fields_fit : field_count head ≤ room.fields

  -- no front of the octets of the room is a head
  abbrev pub HasNoHead : List ℕ → Room → Type 0
  HasNoHead octets room = (head : H) (len : ℕ) → len ≤ room.octets → ¬ (Begins octets head len)

  -- no octets can follow those of the room that make a head
  abbrev pub NeverHasHead : List ℕ → Room → Type 0
  NeverHasHead octets room = (more : List ℕ) (head : H) (len : ℕ) → ¬ (Begins (take room.octets octets ++ more) head len)

  -- whatever follows the octets of the room, no head of so few fields begins them
  abbrev pub HasManyFields : List ℕ → Room → Type 0
  HasManyFields octets room = (more : List ℕ) (head : H) (len : ℕ) → Begins (take room.octets octets ++ more) head len → room.fields < field_count head

  -- each answer stands only where this says so
  abbrev pub GivesHead : Result (Step H) HeadFault → List ℕ → Room → Type 0
  GivesHead (Ok (Whole head len)) octets room = IsWholeHead octets room head len
  GivesHead (Ok More) octets room = HasNoHead octets room × (length octets < room.octets)
  GivesHead (Err Syntax) octets room = NeverHasHead octets room
  GivesHead (Err TooManyFields) octets room = HasManyFields octets room
  GivesHead (Err TooLong) octets room = HasNoHead octets room × (room.octets ≤ length octets)
  GivesHead (Err Host) octets room = ⊥
  GivesHead (Err Target) octets room = ⊥
  GivesHead (Err Memory) octets room = Unit {0}

-- the answer is that head, unless memory ran out
abbrev pub FindsHead : {H : Type 0} → Result (Step H) HeadFault → H → ℕ → Type 0
FindsHead (Ok (Whole found n)) head len = (found ≡ head) × (n ≡ len)
FindsHead (Ok More) head len = ⊥
FindsHead (Err Syntax) head len = ⊥
FindsHead (Err TooManyFields) head len = ⊥
FindsHead (Err TooLong) head len = ⊥
FindsHead (Err Host) head len = ⊥
FindsHead (Err Target) head len = ⊥
FindsHead (Err Memory) head len = Unit {0}

-- some octets can follow that make them a head
abbrev pub CanBecomeHead : {H : Type 0} → (List ℕ → H → ℕ → Type 0) → List ℕ → Type 0
CanBecomeHead {H} begins octets = (more : List ℕ) × (head : H) × begins (octets ++ more) head (length (octets ++ more))

-- the claim stands where more octets are wanted: the answer is More, or that the room is too short for them
abbrev pub OnUnfinished : {H : Type 0} → Result (Step H) HeadFault → Type 0 → Type 0
OnUnfinished (Ok (Whole head len)) claim = Unit {0}
OnUnfinished (Ok More) claim = claim
OnUnfinished (Err Syntax) claim = Unit {0}
OnUnfinished (Err TooManyFields) claim = Unit {0}
OnUnfinished (Err TooLong) claim = claim
OnUnfinished (Err Host) claim = Unit {0}
OnUnfinished (Err Target) claim = Unit {0}
OnUnfinished (Err Memory) claim = Unit {0}

-- the claim stands where the answer is that there are too many fields
abbrev pub OnTooManyFields : {H : Type 0} → Result (Step H) HeadFault → Type 0 → Type 0
OnTooManyFields (Ok step) claim = Unit {0}
OnTooManyFields (Err Syntax) claim = Unit {0}
OnTooManyFields (Err TooManyFields) claim = claim
OnTooManyFields (Err TooLong) claim = Unit {0}
OnTooManyFields (Err Host) claim = Unit {0}
OnTooManyFields (Err Target) claim = Unit {0}
OnTooManyFields (Err Memory) claim = Unit {0}

-- the answer is that there are too many fields
abbrev pub has_too_many : {H : Type 0} → Result (Step H) HeadFault → Bool
has_too_many (Ok step) = false
has_too_many (Err Syntax) = false
has_too_many (Err TooManyFields) = true
has_too_many (Err TooLong) = false
has_too_many (Err Host) = false
has_too_many (Err Target) = false
has_too_many (Err Memory) = false

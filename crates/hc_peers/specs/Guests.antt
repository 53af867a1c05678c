-- Those who have connected, and of whom no octet has come.
use Rattle.std.specs.Prelude.{◌≡◌, ℕ, ◌+◌, ◌-◌, ◌^◌, Bool, false, List, [], ◌∷◌, Option, Some, None, IfSome, is_some, option_map}
use Rattle.std.specs.BTreeMap.{get}
use Rattle.std.specs.Ordering.{nat_cmp}
use Rattle.hc_flow.specs.declared.stream.Presence.{Presence}
use Rattle.hc_flow.specs.declared.stream.Presence.TheVariants.{Over}
use Rattle.hc_peers.specs.Tables.{KeepsOthers, is_there_and}
use Rattle.hc_peers.specs.declared.guests.Guests.{Guests}

-- whether that guest is there
abbrev pub is_guest : {S : Type 0} → ℕ → Guests S → Bool
is_guest n guests = is_some (get nat_cmp guests.table.links n)

-- its link, if it is there
abbrev pub stream_at : {S : Type 0} → ℕ → Guests S → Option S
stream_at n guests = option_map (λ guest. guest.stream) (get nat_cmp guests.table.links n)

-- whether it is there and stands among those who knock
abbrev pub knocks : {S : Type 0} → ℕ → Guests S → Bool
knocks n guests = is_there_and (get nat_cmp guests.table.links n) (λ guest. guest.knocks)

-- all links are there that were, and no others
abbrev pub KeepsGuests : {S : Type 0} → Guests S → Guests S → Type 0
KeepsGuests before after = (n : ℕ) → stream_at n after ≡ stream_at n before

-- a number is greater by one than the one before, and none is given behind the last that there is
abbrev pub GivesNumber : Option ℕ → ℕ → ℕ → Type 0
GivesNumber None before after = (before ≡ 2 ^ 64 - 1) × (after ≡ before)
GivesNumber (Some n) before after = (n ≡ before + 1) × (after ≡ n)

-- who has knocked for longest is answered, and knocks no more, or nobody knocks
abbrev pub GivesKnock : {S : Type 0} → Option ℕ → Guests S → Guests S → Type 0
GivesKnock None before after = (before.knocking.items ≡ []) × (after.knocking.items ≡ []) × (after.table ≡ before.table)
GivesKnock (Some n) before after = (before.knocking.items ≡ n ∷ after.knocking.items) × (knocks n after ≡ false) × KeepsOthers n before.table.links after.table.links

-- of none of them anything was read
abbrev pub AreUnread : {S : Type 0} → (S → List ℕ → Type 0) → Guests S → Type 0
AreUnread has_given guests = (n : ℕ) → IfSome (stream_at n guests) (λ stream. has_given stream [])

-- and to none of them anything was written
abbrev pub AreUnwritten : {S : Type 0} → (S → List ℕ → Type 0) → Guests S → Type 0
AreUnwritten has_got guests = (n : ℕ) → IfSome (stream_at n guests) (λ stream. has_got stream [])

-- neither was anything read, nor written
abbrev pub AreGuests : {S : Type 0} → (S → List ℕ → Type 0) → (S → List ℕ → Type 0) → Guests S → Type 0
AreGuests has_given has_got guests = AreUnread has_given guests × AreUnwritten has_got guests

-- what a look at a guest may tell; of one that isn't there nothing comes
abbrev pub ShowsGuest : {S : Type 0} → (S → Presence → Type 0) → Option S → Presence → Type 0
ShowsGuest may_show None presence = presence ≡ Over
ShowsGuest may_show (Some stream) presence = may_show stream presence

-- Which links are cut off where too much is held.
use Rattle.std.specs.Prelude.{◌≡◌, ◌≤◌, ◌<◌, ◌+◌, ◌-◌, ◌^◌, ℕ, ◌||◌, if◌then◌else◌, Bool, true, false, List, [], ◌∷◌, ◌++◌, Some, min, option_map}
use Rattle.std.specs.List.Sorted.{IsPermutation}
use Rattle.std.specs.BTreeMap.{get}
use Rattle.std.specs.Ordering.{nat_cmp}
use Rattle.hc_order.specs.declared.receiver.Receiver.{Receiver}
use Rattle.hc_order.specs.declared.receiver.Receiver.TheVariants.{Client, Origin}
use Rattle.hc_order.specs.Passages.{is_at}
use Rattle.hc_agenda.specs.declared.reckoning.Heaviest.{Heaviest}
use Rattle.hc_agenda.specs.declared.reckoning.Load.{Load}
use Rattle.hc_agenda.specs.Loads.{TakesHeaviest, cuts_to, total}
use Rattle.hc_peers.specs.Forwards.{has_link, is_waiting, turned}
use Rattle.hc_peers.specs.Known.{known_at}
use Rattle.hc_peers.specs.Peers.{is_owed_to}
use Rattle.hc_peers.specs.declared.client.Client.{Client as KeptClient}
use Rattle.hc_peers.specs.declared.forward.Forward.{Forward}
use Rattle.hc_peers.specs.declared.peers.Peers.{Peers}
use Rattle.hc_attended.specs.Grounds.{IsCutOff}

-- loads were taken out one after another, as long as there were more than so many octets, and each was a heaviest one; the last that was taken comes first
abbrev pub TakeHeaviest : ℕ → List Heaviest → (before after : List Load) → Type 0
TakeHeaviest most [] before after = after ≡ before
TakeHeaviest most (heaviest ∷ taken) before after = (mid : List Load) × TakeHeaviest most taken before mid × TakesHeaviest most (Some heaviest) mid after

-- whether one of them is that of the link
abbrev pub is_among : Receiver → List Heaviest → Bool
is_among link [] = false
is_among link (heaviest ∷ taken) = is_at link heaviest.load.link || is_among link taken

-- a link is as it was, but for whose turn it is
abbrev pub StaysAt : {S : Type 0} → Receiver → Peers S → Peers S → Type 0
StaysAt (Client n) before after = known_at n after.clients.links ≡ known_at n before.clients.links
StaysAt (Origin f) before after = option_map (turned false) (get nat_cmp after.forwards.links f) ≡ option_map (turned false) (get nat_cmp before.forwards.links f)

-- all links are as they were, but for whose turn it is, and but for one
abbrev pub OthersStay : {S : Type 0} → Receiver → Peers S → Peers S → Type 0
OthersStay one before after = (link : Receiver) → is_at link one ≡ false → StaysAt link before after

-- these loads are left, those that were heaviest were taken out, their links were cut off, and no other link was
pub record LightenSoFar {S : Type 0} (most : ℕ) (loads left : List Load) (before after : Peers S) : Type 0 where
  pub taken : List Heaviest
  pub takes : TakeHeaviest most taken loads left
  pub cut : (link : Receiver) → is_among link taken ≡ true → IsCutOff link after
  pub others : (link : Receiver) → is_among link taken ≡ false → StaysAt link before after

-- the links that held most were cut off, until no more than so much was left, and no other link was; so much is held still
pub record IsLightened {S : Type 0} (most : ℕ) (loads : List Load) (held : ℕ) (before after : Peers S) : Type 0 where
  pub left : List Load
  pub enough : total left ≤ most
  pub held_is : held ≡ total left
  pub so_far : LightenSoFar most loads left before after

-- ---- how much is held, and for which links

-- clients who weren't cut off yet
abbrev pub weighed_clients : {S : Type 0} → List (ℕ × KeptClient S) → List Receiver
weighed_clients [] = []
weighed_clients ((n, client) ∷ rest) = if client.cut then weighed_clients rest else Client n ∷ weighed_clients rest

-- forwards that have a link, or wait for one
abbrev pub weighed_forwards : {S : Type 0} → List (ℕ × Forward S) → List Receiver
weighed_forwards [] = []
weighed_forwards ((f, forward) ∷ rest) =
    if is_waiting forward.reaching || has_link forward.reaching then Origin f ∷ weighed_forwards rest else weighed_forwards rest

-- both
abbrev pub weighed : {S : Type 0} → Peers S → List Receiver
weighed peers = weighed_clients peers.clients.links.entries ++ weighed_forwards peers.forwards.links.entries

-- so much is held for a link: some memory, where octets wait there, and as much as the cache may say that it holds of what came
pub record IsLoadOf {S : Type 0} (holds : Receiver → ℕ → Type 0) (peers : Peers S) (link : Receiver) (load : Load) : Type 0 where
  pub waiting : ℕ
  pub held : ℕ
  pub waits : is_owed_to link peers ≡ true → 0 < waiting
  pub is_held : holds link held
  pub link_is : load.link ≡ link
  pub octets_are : load.octets ≡ min (waiting + held) (2 ^ 64 - 1)

-- one load for each of the links, in their order
abbrev pub AreLoadsOf : {S : Type 0} → (Receiver → ℕ → Type 0) → Peers S → List Receiver → List Load → Type 0
AreLoadsOf holds peers [] loads = loads ≡ []
AreLoadsOf holds peers (link ∷ links) [] = ⊥
AreLoadsOf holds peers (link ∷ links) (load ∷ loads) = IsLoadOf holds peers link load × AreLoadsOf holds peers links loads

-- the loads of those links come behind
pub record AddsLoads {S : Type 0} (holds : Receiver → ℕ → Type 0) (peers : Peers S) (links : List Receiver) (before after : List Load) : Type 0 where
  pub loads : List Load
  pub are : AreLoadsOf holds peers links loads
  pub added : after ≡ before ++ loads

-- each link was weighed that may be cut off, and those that hold most were cut off; so much is held still
pub record IsBounded {S : Type 0} (holds : Receiver → ℕ → Type 0) (limit held : ℕ) (before after : Peers S) : Type 0 where
  pub loads : List Load
  pub are : AreLoadsOf holds before (weighed before) loads
  pub ranked : List Load
  pub same : IsPermutation loads ranked
  pub lightened : IsLightened (cuts_to limit) ranked held before after

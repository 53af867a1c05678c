-- Nobody is a guest at first.
use Rattle.std.proofs.Common.{◌≡◌, ℕ, false, Option, Some, None, IfSome, is_some, option_map}
use Rattle.std.specs.BTreeMap.{get}
use Rattle.std.specs.Ordering.{nat_cmp}
use Rattle.hc_peers.specs.Guests.{is_guest, stream_at}
use Rattle.hc_peers.specs.declared.guests.Guests.{Guests}

gone : {S V : Type 0} (P : S → Type 0) (link : V → S) (there : Option V) → is_some there ≡ false → IfSome (option_map link there) P
gone P link None is = tt
gone P link (Some value) is = absurd (cc)

pub none_there : {S : Type 0} (P : S → Type 0) (guests : Guests S) → ((n : ℕ) → is_guest n guests ≡ false) → (n : ℕ) → IfSome (stream_at n guests) P
none_there P guests none n = gone P (λ guest. guest.stream) (get nat_cmp guests.table.links n) (none n)

-- What is kept of forwards, and which of them is the least.
use Rattle.std.proofs.Common.{◌≡◌, ℕ, ◌==◌, ◌++◌, Bool, true, false, cond, List, length, Option, Some, None, Result, Ok, Err, IfOk, IfSome, IsSome, is_some, if◌then◌else◌, refl, sym, ap, ◌∙◌, subst, arith, rules}
use Rattle.std.proofs.lemmas.Bool.Decides.{nat_tests}
use Rattle.std.proofs.lemmas.List.{nil_from_length}
use Rattle.std.proofs.lemmas.Map.Keys.{le_from_not_gt}
use Rattle.std.specs.BTreeMap.{BTreeMap, IsLowerBound, Updates, get, is_at}
use Rattle.std.specs.Cmp.{unsigned_tied}
use Rattle.std.specs.Map.{lookup}
use Rattle.std.specs.Ordering.{eq_by_cmp, nat_cmp}
use Rattle.std.specs.declared.alloc.AllocError.{AllocError}
use Rattle.hc_service.specs.declared.event.Happening.{Happening}
use Rattle.hc_service.specs.declared.event.Happening.TheVariants.{ClientOpened, ClientBytes, ClientEnd, OriginBytes, OriginEnd, OriginFailed, Stopping}
use Rattle.hc_links.specs.declared.happened.Happened.{Happened}
use Rattle.hc_links.specs.declared.reading.Came.{Came}
use Rattle.hc_links.specs.declared.reading.Came.TheVariants.{Octets, End, Failure}
use Rattle.hc_connection.specs.Forwards.{AreKept, IsKept, IsLeastOpen, IsOfClient, KeepsCame, KeepsHappening, KeepsIfOk, KeepsPerhaps, KeepsSlot, NoneOpen, is_open_in, read_on, sent_on}
use Rattle.hc_order.specs.declared.occurrence.Reason.{Reason}
use Rattle.hc_order.specs.Log.{Move}
use Rattle.hc_links.specs.Telling.{TellsPerhaps}

module _ {L : Type 0} (has_given has_got : L → List ℕ → Type 0) where
  -- ---- what is kept is open, and what is open is kept

  is_open : (o : Option (Option L)) (now : Bool) (read sent : List ℕ) → IsSome o → IsKept has_given has_got now read sent o → now ≡ true
  is_open None now read sent some kept = absurd (cc)
  is_open (Some None) now read sent some kept = kept.0
  is_open (Some (Some link)) now read sent some kept = kept.0

  is_there : (o : Option (Option L)) (now : Bool) (read sent : List ℕ) → now ≡ true → IsKept has_given has_got now read sent o → IsSome o
  is_there None now read sent its kept = absurd (cc)
  is_there (Some slot) now read sent its kept = refl

  pub least_is : (links : BTreeMap ℕ (Option L)) (f : ℕ) → IsSome (get nat_cmp links f) → IsLowerBound nat_cmp links f
      → (log : List Move) → AreKept has_given has_got links log → IsLeastOpen f log
  least_is links f some least log kept = (
    is_open (get nat_cmp links f) _ _ _ some (kept f),
    λ g its. le_from_not_gt f g (least g (is_there (get nat_cmp links g) _ _ _ its (kept g))),
  )

  pub none_is : (links : BTreeMap ℕ (Option L)) → length links.entries ≡ 0 → (log : List Move) → AreKept has_given has_got links log → NoneOpen log
  none_is links none log kept f =
      subst (IsKept has_given has_got (is_open_in f log) (read_on f log) (sent_on f log))
      (ap (lookup (is_at (nat_cmp f))) (nil_from_length links.entries none)) (kept f)

  -- ---- octets of one

  at_one : (b now : Bool) (read octets sent : List ℕ) (slot : Option L) (o : Option (Option L)) → (b ≡ true → IsKept has_given has_got now (read ++ octets) sent (Some slot))
      → IsKept has_given has_got now read sent o → IsKept has_given has_got now (if b then read ++ octets else read) sent (cond b (Some slot) o)
  at_one true now read octets sent slot o its kept = its refl
  at_one false now read octets sent slot o its kept = kept

  left_at : (b now : Bool) (read sent : List ℕ) (slot : Option L) (o : Option (Option L)) → (b ≡ true → IsKept has_given has_got now read sent (Some slot))
      → IsKept has_given has_got now read sent o → IsKept has_given has_got now read sent (cond b (Some slot) o)
  left_at true now read sent slot o its kept = its refl
  left_at false now read sent slot o its kept = kept

  same_number : (k f : ℕ) → (k == f) ≡ true → k ≡ f
  same_number k f e = grind (arith, nat_tests, e)

  tied : (k f : ℕ) → eq_by_cmp nat_cmp k f ≡ (k == f)
  tied k f = unsigned_tied k f

  module _ (links links' : BTreeMap ℕ (Option L)) (k : ℕ) (slot slot' : Option L) (was : get nat_cmp links k ≡ Some slot) (updates : Updates nat_cmp links links' k (Some slot')) (log : List Move)
      (kept : AreKept has_given has_got links log) where
    its_slot : IsKept has_given has_got (is_open_in k log) (read_on k log) (sent_on k log) (Some slot)
    its_slot = subst (IsKept has_given has_got (is_open_in k log) (read_on k log) (sent_on k log)) was (kept k)

    now_at : (f : ℕ) → cond (k == f) (Some slot') (get nat_cmp links f) ≡ get nat_cmp links' f
    now_at f = ap (λ (b : Bool). cond b (Some slot') (get nat_cmp links f)) (sym (tied k f)) ∙ sym (updates.0 f)

    came : (octets : List ℕ) → IsKept has_given has_got (is_open_in k log) (read_on k log ++ octets) (sent_on k log) (Some slot')
        → KeepsCame (AreKept has_given has_got links') k (Ok (Octets octets)) log
    came octets now moment f =
        subst (IsKept has_given has_got (is_open_in f log) (if k == f then read_on f log ++ octets else read_on f log) (sent_on f log)) (now_at f)
        (at_one (k == f) (is_open_in f log) (read_on f log) octets (sent_on f log) slot' (get nat_cmp links f)
        (λ same. subst (λ (g : ℕ). IsKept has_given has_got (is_open_in g log) (read_on g log ++ octets) (sent_on g log) (Some slot')) (same_number k f same) now) (kept f))

    left : IsKept has_given has_got (is_open_in k log) (read_on k log) (sent_on k log) (Some slot') → AreKept has_given has_got links' log
    left now f =
        subst (IsKept has_given has_got (is_open_in f log) (read_on f log) (sent_on f log)) (now_at f)
        (left_at (k == f) (is_open_in f log) (read_on f log) (sent_on f log) slot' (get nat_cmp links f)
        (λ same. subst (λ (g : ℕ). IsKept has_given has_got (is_open_in g log) (read_on g log) (sent_on g log) (Some slot')) (same_number k f same) now) (kept f))

    at_end : (slot : Option L) (now : Bool) (read sent : List ℕ) → KeepsSlot has_given has_got now read sent (Ok End) slot → IsKept has_given has_got now read sent (Some slot)
    at_end None now read sent gives = absurd gives
    at_end (Some link) now read sent gives = gives

    pub heard_kept : (result : Result Came AllocError)
        → ((read sent : List ℕ) (now : Bool) → IsKept has_given has_got now read sent (Some slot) → KeepsSlot has_given has_got now read sent result slot')
        → KeepsCame (AreKept has_given has_got links') k result log
    heard_kept (Ok (Octets octets)) gives = came octets (gives _ _ _ its_slot)
    heard_kept (Ok End) gives = left (at_end slot' _ _ _ (gives _ _ _ its_slot))
    heard_kept (Ok Failure) gives = left (gives _ _ _ its_slot)
    heard_kept (Err refused) gives = left (gives _ _ _ its_slot)

-- ---- what happens to the client

-- where no forward is open it may be anything of the client's
pub of_client : {L : Type 0} (has_given has_got : L → List ℕ → Type 0) (links : BTreeMap ℕ (Option L)) (of : Happening) (reason : Reason) → IsOfClient of
    → (log : List Move) → NoneOpen log → AreKept has_given has_got links log → KeepsHappening (AreKept has_given has_got links) (record { of = of; reason = reason }) log
of_client has_given has_got links (ClientBytes c octets) reason its log none kept = (none, λ moment. kept)
of_client has_given has_got links (ClientEnd c) reason its log none kept = search rules
of_client has_given has_got links (ClientOpened c) reason its log none kept = absurd its
of_client has_given has_got links (OriginBytes f octets) reason its log none kept = absurd its
of_client has_given has_got links (OriginEnd f) reason its log none kept = absurd its
of_client has_given has_got links (OriginFailed f) reason its log none kept = absurd its
of_client has_given has_got links Stopping reason its log none kept = absurd its

pub client_heard : {L : Type 0} (has_given has_got : L → List ℕ → Type 0) (links : BTreeMap ℕ (Option L)) (result : Result (Option Happened) AllocError)
    → IfOk result (λ perhaps. IfSome perhaps (λ happened. IsOfClient happened.of)) → (log : List Move) → NoneOpen log → AreKept has_given has_got links log
    → KeepsIfOk (AreKept has_given has_got links) result log
client_heard has_given has_got links (Ok (Some happened)) its log none kept = of_client has_given has_got links happened.of happened.reason its log none kept
client_heard has_given has_got links (Ok None) its log none kept = kept
client_heard has_given has_got links (Err refused) its log none kept = kept

-- ---- nothing happens

pub keeps_none : (keeps : List Move → Type 0) (perhaps : Option Happened) (log : List Move) → is_some perhaps ≡ false → KeepsPerhaps keeps perhaps log → keeps log
keeps_none keeps None log none kept = kept
keeps_none keeps (Some happened) log none kept = absurd (cc)

pub tells_none : (tells : List Move → Type 0) (perhaps : Option Happened) (log : List Move) → is_some perhaps ≡ false → TellsPerhaps tells perhaps log → tells log
tells_none tells None log none told = told
tells_none tells (Some happened) log none told = absurd (cc)

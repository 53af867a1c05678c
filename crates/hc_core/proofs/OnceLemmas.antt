-- What a request gets at once, and what a store answers, is one thing.
use Rattle.std.proofs.Common.{◌≡◌, ℕ, true, false, cond, List, Option, Some, None, refl, sym, ap, ◌∙◌, subst, arith}
use Rattle.std.specs.FinMap.{get}
use Rattle.std.proofs.lemmas.Bool.{and_parts}
use Rattle.hc_head.specs.declared.head.Target.{Target}
use Rattle.hc_update.specs.declared.stored.Stored.{Stored}
use Rattle.hc_incoming.specs.Requests.{HasRequest, IsUnfinished}
use Rattle.hc_incoming.proofs.RequestLaws.{request_not_unfinished}
use Rattle.hc_store.specs.declared.putting.Put.{Put}
use Rattle.hc_store.specs.declared.putting.Put.TheVariants as put
use Rattle.hc_store.specs.Calls.{Puts, grows, is_small_enough, may_put}
use Rattle.hc_store.specs.Entries.{Holdings, knows, may_hold}
use Rattle.hc_service.specs.declared.cases.Cause.{Cause}
use Rattle.hc_service.specs.Agreement.{Agrees, History}
use Rattle.hc_service.specs.Cases.{case_before_store, case_by_store}
use Rattle.hc_service.specs.Joining.{IsLeast}
use Rattle.hc_service.specs.Reactions.{Reaction, Reacts, ReactsBy, ReactsByStore, ReactsJoined, ReactsUnlessJoined, WholeRequest, chosen_reaction, would_wait}
use Rattle.hc_service.specs.Serves.{IsQuietBy}
use Rattle.hc_service.specs.State.{Awaited, Connection, OpenNow, State, Table}

-- ---- what a whole request gets

joined : {X : Type 0} (x y z : X) → x ≡ z → y ≡ z → x ≡ y
joined x y z one other = one ∙ sym other

-- the least forward that it may wait for
least_once : (target : Target) (underway : OpenNow) (one other : Option ℕ) → IsLeast target underway one → IsLeast target underway other → one ≡ other
least_once target underway None None none other = refl
least_once target underway None (Some g) none least = absurd (none g least.0)
least_once target underway (Some f) None least none = absurd (none f least.0)
least_once target underway (Some f) (Some g) least lowest =
    let le = least.1 g lowest.0 in let ge = lowest.1 f least.0 in let same : f ≡ g = omega arith in ap (λ (n : ℕ). Some n) same

module _ (whole : WholeRequest) (forwards : Table Awaited) (old new changed : Holdings) (one other : Reaction) where
  -- what the store chooses decides
  by_store_once : ReactsByStore whole forwards old one new → ReactsByStore whole forwards old other changed → (one ≡ other) × (new ≡ changed)
  by_store_once a b =
      let same : a.chosen ≡ b.chosen = joined a.chosen b.chosen _ a.finds.0 b.finds.0 in (
        a.reaction_is
            ∙ ap (λ (chosen : Option Stored). chosen_reaction whole.wanted whole.target whole.request forwards chosen
            (case_by_store whole.request.head.fields (knows whole.target old.entries) chosen whole.wanted.moment)) same
            ∙ sym b.reaction_is,
        joined new changed _ a.finds.1 b.finds.1,
      )

  joined_once : (least : Option ℕ) → ReactsJoined least whole forwards old one new → ReactsJoined least whole forwards old other changed → (one ≡ other) × (new ≡ changed)
  joined_once (Some f) a b = (joined one other _ a.0 b.0, joined new changed _ a.1 b.1)
  joined_once None a b = by_store_once a b

module _ (whole : WholeRequest) (underway : OpenNow) (old new changed : Holdings) (one other : Reaction) where
  unless_joined_once : ReactsUnlessJoined whole underway old one new → ReactsUnlessJoined whole underway old other changed → (one ≡ other) × (new ≡ changed)
  unless_joined_once a b =
      joined_once whole underway.forwards old new changed one other (cond (would_wait whole old) a.least None) a.reacts
      (subst (λ (least : Option ℕ). ReactsJoined (cond (would_wait whole old) least None) whole underway.forwards old other changed)
      (sym (least_once whole.target underway a.least b.least a.is_least b.is_least)) b.reacts)

  by_case_once : (before : Option Cause) → ReactsBy before whole underway old one new → ReactsBy before whole underway old other changed → (one ≡ other) × (new ≡ changed)
  by_case_once (Some why) a b = (joined one other _ a.0 b.0, joined new changed _ a.1 b.1)
  by_case_once None a b = unless_joined_once a b

  pub reacts_once : Reacts whole underway old one new → Reacts whole underway old other changed → (one ≡ other) × (new ≡ changed)
  reacts_once a b = by_case_once (case_before_store whole.request) a b

-- ---- what is put

false_true : false ≡ true → ⊥
false_true e = cc

pub put_without_growth : (target : Target) (stored : Stored) (old new : Holdings) (answer : Put) → may_put stored old ≡ true
    → grows target old.entries ≡ false → Puts target stored old answer new → answer ≡ put.Stored
put_without_growth target stored old new put.Stored small light puts = refl
put_without_growth target stored old new put.SetsCookie small light puts =
    absurd (false_true (sym puts.0 ∙ (and_parts (may_hold old.keeps_cookies stored) (is_small_enough stored old) small).0))
put_without_growth target stored old new put.TooLarge small light puts =
    absurd (false_true (sym puts.1 ∙ (and_parts (may_hold old.keeps_cookies stored) (is_small_enough stored old) small).1))
put_without_growth target stored old new put.NoMemory small light puts = absurd (false_true (sym light ∙ puts.1))

pub no_cookie_put : (target : Target) (stored : Stored) (old new : Holdings) (answer : Put) → may_hold old.keeps_cookies stored ≡ false
    → Puts target stored old answer new → answer ≡ put.SetsCookie
no_cookie_put target stored old new put.Stored none puts =
    absurd (false_true (sym none ∙ (and_parts (may_hold old.keeps_cookies stored) (is_small_enough stored old) puts.0).0))
no_cookie_put target stored old new put.SetsCookie none puts = refl
no_cookie_put target stored old new put.TooLarge none puts = absurd (false_true (sym none ∙ puts.0))
no_cookie_put target stored old new put.NoMemory none puts =
    absurd (false_true (sym none ∙ (and_parts (may_hold old.keeps_cookies stored) (is_small_enough stored old) puts.0).0))

pub put_once : (target : Target) (stored : Stored) (old new changed : Holdings) (answer : Put) → Puts target stored old answer new
    → Puts target stored old answer changed → new ≡ changed
put_once target stored old new changed put.Stored a b = joined new changed _ a.1 b.1
put_once target stored old new changed put.SetsCookie a b = joined new changed _ a.1 b.1
put_once target stored old new changed put.TooLarge a b = joined new changed _ a.2 b.2
put_once target stored old new changed put.NoMemory a b = joined new changed _ a.2 b.2

-- ---- what is unread

unfinished : (exchange : Option ℕ) (unread : List ℕ) → exchange ≡ None → IsQuietBy exchange unread → IsUnfinished unread
unfinished None unread is quiet = quiet
unfinished (Some e) unread is quiet = absurd (cc)

pub none_held_back : (s : State) (h : History) (c : ℕ) (connection : Connection) → Agrees s h → get s.connections c ≡ Some connection
    → connection.exchange ≡ None → ¬ (HasRequest connection.unread)
none_held_back s h c connection agrees is idle has =
    request_not_unfinished connection.unread has.message has.target has.len has.is_request
    (unfinished connection.exchange connection.unread idle (agrees.quiet c connection is))

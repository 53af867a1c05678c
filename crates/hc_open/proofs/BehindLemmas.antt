-- The forwards for the store alone, by target.
use Rattle.std.proofs.Common.{◌≡◌, ℕ, ◌+◌, Bool, true, false, ◌&&◌, cond, nat_lt, List, length, Option, Some, None, refl, sym, ap, ◌∙◌, subst, arith}
use Rattle.std.specs.BTreeMap.{BTreeMap, IsEmpty, Updates, btree_map_len, is_at, get as kept_at}
use Rattle.std.specs.BTreeSet.{BTreeSet}
use Rattle.std.specs.FinMap.{empty, get, insert, remove, values}
use Rattle.std.specs.List.{count_by, list_any}
use Rattle.std.specs.Map.{lookup}
use Rattle.std.specs.Option.{is_some}
use Rattle.std.specs.Ordering.{nat_cmp, is_eq}
use Rattle.hc_head.specs.contracts.head.TargetOrd.TheImpl.Laws.{matches_eq-law}
use Rattle.hc_head.specs.declared.head.RequestHead.{RequestHead}
use Rattle.hc_head.specs.declared.head.Target.{Target}
use Rattle.hc_head.specs.Targets.{same_target}
use Rattle.hc_head.proofs.SameTargetLemmas.{same_target_one, same_target_itself}
use Rattle.hc_service.specs.declared.cases.Cause.{Cause}
use Rattle.hc_service.specs.declared.open.ForwardKind.{ForwardKind}
use Rattle.hc_service.specs.declared.open.OpenForward.{OpenForward}
use Rattle.hc_service.specs.declared.open.Purpose.TheVariants as purpose
use Rattle.hc_service.specs.Reactions.{is_background, is_for_store}
use Rattle.hc_service.specs.State.{Awaited, Table}
use Rattle.hc_service.specs.Turns.{sent_forward}
use Rattle.hc_reactions.specs.Reacting.{IsOpenBehind}
use Rattle.hc_open.specs.declared.links.Link.{Link}
use Rattle.hc_open.specs.declared.open_links.OpenLinks.{OpenLinks}
use Rattle.hc_open.specs.Groups.{AddsNumber, AreGrouped, RemovesNumber}
use Rattle.hc_service.specs.Joining.{may_be_joined}
use Rattle.hc_open.specs.Links.{AreBehind, AreLinks, HasPlace, IsLink, TakesLink, by_target, is_behind, is_joinable_for}
use Rattle.hc_open.specs.Tables.{AreAlike}
use Rattle.hc_open.proofs.GroupLemmas.{grouped_gone, grouped_left, grouped_past, grouped_put, grouped_same}
use Rattle.hc_open.proofs.CountLemmas.{any_of_count, count_empty, count_gone, count_put, count_same, one_more}
use Rattle.hc_open.proofs.TableLemmas.{alike_put, alike_taken, found, found_none, get_gone, gone_same, put_back}

-- ---- targets

-- the order ties those that are the same
tied : (one other : Target) → is_eq (by_target one other) ≡ same_target one other
tied one other = sym (matches_eq-law one other)

-- ---- Booleans and counts

neither : (a b : Bool) → a ≡ false → (a && b) ≡ false
neither true b other = absurd (cc)
neither false b other = refl

not_counted : (b : Bool) (all rest : ℕ) → all ≡ cond b 1 0 + rest → b ≡ false → rest ≡ all
not_counted true all rest is other = absurd (cc)
not_counted false all rest is other = omega (arith, is)

counted : (b : Bool) (all rest : ℕ) → all ≡ cond b 1 0 + rest → b ≡ true → all ≡ 1 + rest
counted true all rest is yes_it = is
counted false all rest is yes_it = absurd (cc)

gone_at : (b s : Bool) (all rest : ℕ) → all ≡ cond b 1 0 + rest → all ≡ cond s 1 0 → rest ≡ cond (cond b false s) 1 0
gone_at true true all rest is kept = omega (arith, is, kept)
gone_at true false all rest is kept = absurd (omega (arith, is, kept))
gone_at false s all rest is kept = omega (arith, is, kept)

put_at : (b s : Bool) (all rest : ℕ) → all ≡ cond b 1 0 + rest → rest ≡ cond s 1 0 → (b ≡ true → s ≡ false) → all ≡ cond (cond b true s) 1 0
put_at true true all rest is kept none = absurd (true_false (none refl))
  where
    true_false : true ≡ false → ⊥
    true_false e = cc
put_at true false all rest is kept none = omega (arith, is, kept)
put_at false s all rest is kept none = omega (arith, is, kept)

there_by : (s : Bool) (all rest : ℕ) → all ≡ 1 + rest → all ≡ cond s 1 0 → s ≡ true
there_by true all rest is kept = refl
there_by false all rest is kept = absurd (omega (arith, is, kept))

absent_by : (s : Bool) (all : ℕ) → all ≡ cond s 1 0 → nat_lt 0 all ≡ false → s ≡ false
absent_by true all kept none = absurd (one_less (ap (nat_lt 0) (sym kept) ∙ none))
  where
    one_less : nat_lt 0 1 ≡ false → ⊥
    one_less e = cc
absent_by false all kept none = refl

some_counted : (s : Bool) (all : ℕ) → all ≡ cond s 1 0 → nat_lt 0 all ≡ s
some_counted true all kept = ap (nat_lt 0) kept
some_counted false all kept = ap (nat_lt 0) kept

some_gone : (b : Bool) (o : Option ℕ) → is_some (cond b None o) ≡ cond b false (is_some o)
some_gone true o = refl
some_gone false o = refl

some_put : (b : Bool) (x : ℕ) (o : Option ℕ) → is_some (cond b (Some x) o) ≡ cond b true (is_some o)
some_put true x o = refl
some_put false x o = refl

fewer : (s : Bool) (new all rest old : ℕ) → s ≡ true → new + cond s 1 0 ≡ old → all ≡ 1 + rest → all ≡ old → rest ≡ new
fewer true new all rest old is len more many = omega (arith, len, more, many)
fewer false new all rest old is len more many = absurd (cc)

more_by : (s : Bool) (new all rest old : ℕ) → s ≡ false → new ≡ old + cond s 0 1 → all ≡ 1 + rest → rest ≡ old → all ≡ new
more_by true new all rest old is len more many = absurd (cc)
more_by false new all rest old is len more many = omega (arith, len, more, many)

-- ---- what is open for the store alone

pub none_behind : (m : BTreeMap Target ℕ) → IsEmpty m → AreBehind m empty
none_behind m is = record {
  at = λ t. count_empty (is_behind t) ∙ sym (ap (λ (o : Option ℕ). cond (is_some o) 1 0) (ap (λ (es : List (Target × ℕ)). lookup (is_at (by_target t)) es) is));
  many = count_empty is_background ∙ sym (ap length is);
}

pub told_behind : (m : BTreeMap Target ℕ) (forwards : Table Awaited) (target : Target) (some_there : Bool) (many : ℕ) → AreBehind m forwards
    → some_there ≡ is_some (kept_at by_target m target) → many ≡ btree_map_len m
    → IsOpenBehind target forwards (record { count = many; for_target = some_there })
told_behind m forwards target some_there many are there-is many-is = record {
  count_is = many-is ∙ sym are.many;
  for_target_is = there-is ∙ sym (some_counted (is_some (kept_at by_target m target)) _ (are.at target)) ∙ sym (any_of_count (is_behind target) (values forwards));
}

module _ (forwards : Table Awaited) (f : ℕ) (a : Awaited) (forward : OpenForward) (same : a.forward ≡ forward) where
  background_is : is_background a ≡ is_for_store forward.purpose
  background_is = ap (λ (x : OpenForward). is_for_store x.purpose) same

  behind_is : is_for_store forward.purpose ≡ true → (t : Target) → is_behind t a ≡ same_target forward.target t
  behind_is for_store t =
      ap (λ (b : Bool). b && same_target a.forward.target t) (background_is ∙ for_store) ∙ ap (λ (x : OpenForward). same_target x.target t) same

  not_behind : is_for_store forward.purpose ≡ false → (t : Target) → is_behind t a ≡ false
  not_behind other t = neither (is_background a) (same_target a.forward.target t) (background_is ∙ other)

  module _ (m : BTreeMap Target ℕ) (are : AreBehind m forwards) where
    -- ---- it is taken out

    pub keeps_behind : get forwards f ≡ Some a → is_for_store forward.purpose ≡ false → AreBehind m (remove forwards f)
    keeps_behind there other = record {
      at = λ t. not_counted (is_behind t a) _ _ (count_gone (is_behind t) forwards f a there) (not_behind other t) ∙ are.at t;
      many = not_counted (is_background a) _ _ (count_gone is_background forwards f a there) (background_is ∙ other) ∙ are.many;
    }

    pub leaves_behind : get forwards f ≡ Some a → is_for_store forward.purpose ≡ true → (n : BTreeMap Target ℕ) (old : Option ℕ) → Updates by_target m n forward.target None
        → old ≡ kept_at by_target m forward.target → btree_map_len n + cond (is_some old) 1 0 ≡ btree_map_len m → AreBehind n (remove forwards f)
    leaves_behind there for_store n old updates old-is len =
        let all : (t : Target) → count_by (is_behind t) (values forwards) ≡ cond (same_target forward.target t) 1 0 + count_by (is_behind t) (values (remove forwards f)) =
        λ t. count_gone (is_behind t) forwards f a there ∙ ap (λ (b : Bool). cond b 1 0 + count_by (is_behind t) (values (remove forwards f))) (behind_is for_store t) in
        record {
          at = λ t.
              gone_at (same_target forward.target t) (is_some (kept_at by_target m t)) _ _ (all t) (are.at t)
              ∙ ap (λ (b : Bool). cond b 1 0) (sym (
              ap is_some (updates.0 t ∙ ap (λ (b : Bool). cond b None (kept_at by_target m t)) (tied forward.target t))
              ∙ some_gone (same_target forward.target t) (kept_at by_target m t)));
          many = fewer (is_some old) (btree_map_len n) _ _ (btree_map_len m)
              (ap is_some old-is ∙ there_by (is_some (kept_at by_target m forward.target)) _ _ (counted (same_target forward.target forward.target) _ _ (all forward.target) (same_target_itself forward.target)) (are.at forward.target))
              len (counted (is_background a) _ _ (count_gone is_background forwards f a there) (background_is ∙ for_store)) are.many;
        }

    -- ---- it is put where none was

    pub stays_behind : get forwards f ≡ None → is_for_store forward.purpose ≡ false → AreBehind m (insert forwards f a)
    stays_behind none other = record {
      at = λ t. sym (not_counted (is_behind t a) _ _ (count_put (is_behind t) forwards f a none) (not_behind other t)) ∙ are.at t;
      many = sym (not_counted (is_background a) _ _ (count_put is_background forwards f a none) (background_is ∙ other)) ∙ are.many;
    }

    pub comes_behind : get forwards f ≡ None → is_for_store forward.purpose ≡ true → HasPlace a forwards → (n : BTreeMap Target ℕ) (old : Option ℕ)
        → Updates by_target m n forward.target (Some f) → old ≡ kept_at by_target m forward.target → btree_map_len n ≡ btree_map_len m + cond (is_some old) 0 1
        → AreBehind n (insert forwards f a)
    comes_behind none for_store place n old updates old-is len =
        let none_there : list_any (is_behind forward.target) (values forwards) ≡ false =
        subst (λ (x : OpenForward). list_any (is_behind x.target) (values forwards) ≡ false) same (place (background_is ∙ for_store)) in
        let absent : is_some (kept_at by_target m forward.target) ≡ false =
        absent_by (is_some (kept_at by_target m forward.target)) _ (are.at forward.target) (sym (any_of_count (is_behind forward.target) (values forwards)) ∙ none_there) in
        let all : (t : Target) → count_by (is_behind t) (values (insert forwards f a)) ≡ cond (same_target forward.target t) 1 0 + count_by (is_behind t) (values forwards) =
        λ t. count_put (is_behind t) forwards f a none ∙ ap (λ (b : Bool). cond b 1 0 + count_by (is_behind t) (values forwards)) (behind_is for_store t) in
        record {
          at = λ t.
              put_at (same_target forward.target t) (is_some (kept_at by_target m t)) _ _ (all t) (are.at t)
              (λ tie. subst (λ (x : Target). is_some (kept_at by_target m x) ≡ false) (same_target_one forward.target t tie) absent)
              ∙ ap (λ (b : Bool). cond b 1 0) (sym (
              ap is_some (updates.0 t ∙ ap (λ (b : Bool). cond b (Some f) (kept_at by_target m t)) (tied forward.target t))
              ∙ some_put (same_target forward.target t) f (kept_at by_target m t)));
          many = more_by (is_some old) (btree_map_len n) _ _ (btree_map_len m) (ap is_some old-is ∙ absent) len
              (counted (is_background a) _ _ (count_put is_background forwards f a none) (background_is ∙ for_store)) are.many;
        }

-- another of the same purpose and target in its place
pub received_behind : (m : BTreeMap Target ℕ) (forwards : Table Awaited) (f : ℕ) (a b : Awaited) → AreBehind m forwards → get forwards f ≡ Some a → b.forward ≡ a.forward
    → AreBehind m (insert forwards f b)
received_behind m forwards f a b are there same = record {
  at = λ t. count_same (is_behind t) forwards f a b there (ap (λ (x : OpenForward). is_for_store x.purpose && same_target x.target t) same) ∙ are.at t;
  many = count_same is_background forwards f a b there (ap (λ (x : OpenForward). is_for_store x.purpose) same) ∙ are.many;
}

-- ---- those that were made since nothing was stored of their target

module _ (m : BTreeMap Target (BTreeSet ℕ)) (forwards : Table Awaited) (f : ℕ) (a : Awaited) (forward : OpenForward) (are : AreGrouped by_target is_joinable_for m forwards) (same : a.forward ≡ forward) where
  not_joinable : may_be_joined forward.purpose ≡ false → (q : Target) → is_joinable_for q a ≡ false
  not_joinable other q = neither (may_be_joined a.forward.purpose) (same_target a.forward.target q) (ap (λ (x : OpenForward). may_be_joined x.purpose) same ∙ other)

  of_its_target : may_be_joined forward.purpose ≡ true → (q : Target) → is_joinable_for q a ≡ is_eq (by_target forward.target q)
  of_its_target miss q =
      ap (λ (b : Bool). b && same_target a.forward.target q) (ap (λ (x : OpenForward). may_be_joined x.purpose) same ∙ miss)
      ∙ ap (λ (x : OpenForward). same_target x.target q) same ∙ sym (tied forward.target q)

  of_one_target : (q : Target) (b : Awaited) → is_eq (by_target forward.target q) ≡ true → is_joinable_for q b ≡ is_joinable_for forward.target b
  of_one_target q b at = ap (λ (t : Target). is_joinable_for t b) (sym (same_target_one forward.target q (sym (tied forward.target q) ∙ at)))

  pub keeps_joinable : get forwards f ≡ Some a → may_be_joined forward.purpose ≡ false → AreGrouped by_target is_joinable_for m (remove forwards f)
  keeps_joinable there other = grouped_left by_target is_joinable_for m forwards f are a there (not_joinable other)

  pub leaves_joinable : get forwards f ≡ Some a → may_be_joined forward.purpose ≡ true → (n : BTreeMap Target (BTreeSet ℕ)) → RemovesNumber by_target m forward.target f n
      → AreGrouped by_target is_joinable_for n (remove forwards f)
  leaves_joinable there miss n removes = grouped_gone by_target is_joinable_for m forwards f are n forward.target a there (of_its_target miss) of_one_target removes

  pub stays_joinable : get forwards f ≡ None → may_be_joined forward.purpose ≡ false → AreGrouped by_target is_joinable_for m (insert forwards f a)
  stays_joinable none other = grouped_past by_target is_joinable_for m forwards f are a none (not_joinable other)

  pub comes_joinable : get forwards f ≡ None → may_be_joined forward.purpose ≡ true → (n : BTreeMap Target (BTreeSet ℕ)) → AddsNumber by_target m forward.target f n
      → AreGrouped by_target is_joinable_for n (insert forwards f a)
  comes_joinable none miss n adds = grouped_put by_target is_joinable_for m forwards f are n forward.target a none (of_its_target miss) of_one_target adds

-- another of the same purpose and target in its place
pub received_joinable : (m : BTreeMap Target (BTreeSet ℕ)) (forwards : Table Awaited) (f : ℕ) (a b : Awaited) → AreGrouped by_target is_joinable_for m forwards → get forwards f ≡ Some a
    → b.forward ≡ a.forward → AreGrouped by_target is_joinable_for m (insert forwards f b)
received_joinable m forwards f a b are there same =
    grouped_same by_target is_joinable_for m forwards f are a b there (λ q. ap (λ (x : OpenForward). may_be_joined x.purpose && same_target x.target q) same)

-- one that is for an exchange has place
pub reply_has_place : (request : RequestHead) (target : Target) (moment e : ℕ) (why : Cause) (kind : ForwardKind) (forwards : Table Awaited)
    → HasPlace (sent_forward request target moment (purpose.Reply e why kind)) forwards
reply_has_place request target moment e why kind forwards for_store = absurd (no_such for_store)
  where
    no_such : false ≡ true → ⊥
    no_such e = cc

-- ---- links are taken out and put in

module _ (links : OpenLinks) (forwards : Table Awaited) (f : ℕ) where
  -- none is there
  pub misses_link : (by_number : BTreeMap ℕ Link) (old : Option Link) → AreLinks links forwards → kept_at nat_cmp links.by_number f ≡ None → Updates nat_cmp links.by_number by_number f None
      → old ≡ kept_at nat_cmp links.by_number f → btree_map_len by_number + cond (is_some old) 1 0 ≡ btree_map_len links.by_number
      → TakesLink f None forwards (record { by_number = by_number; behind = links.behind; joinable = links.joinable })
  misses_link by_number old are none updates old-is len =
      let absent = found_none IsLink _ _ (are.by_number.at f) none in (
        absent,
        record {
          by_number = subst (AreAlike IsLink by_number) (gone_same forwards f absent) (alike_taken IsLink links.by_number by_number forwards f old are.by_number updates old-is len);
          behind = are.behind;
          joinable = are.joinable;
        },
      )

  -- one is, whose place is free then
  pub takes_link : (link : Link) (by_number : BTreeMap ℕ Link) (new : OpenLinks) → AreLinks links forwards → kept_at nat_cmp links.by_number f ≡ Some link
      → Updates nat_cmp links.by_number by_number f None → Some link ≡ kept_at nat_cmp links.by_number f
      → btree_map_len by_number + cond (is_some (Some link)) 1 0 ≡ btree_map_len links.by_number → new.by_number ≡ by_number
      → ((table : Table Awaited) (a : Awaited) → AreBehind links.behind table → AreGrouped by_target is_joinable_for links.joinable.sets table → get table f ≡ Some a → a.forward ≡ link.forward
      → AreBehind new.behind (remove table f) × AreGrouped by_target is_joinable_for new.joinable.sets (remove table f))
      → TakesLink f (Some link) forwards new
  takes_link link by_number new are there updates old-is len by_number-is forgets =
      let a = found IsLink _ _ link (are.by_number.at f) there in
      let others = forgets forwards a.0 are.behind are.joinable a.1 (sym a.2.forward) in (
        a.0,
        a.1,
        a.2,
        record {
          by_number = subst (λ (m : BTreeMap ℕ Link). AreAlike IsLink m (remove forwards f)) (sym by_number-is)
              (alike_taken IsLink links.by_number by_number forwards f (Some link) are.by_number updates old-is len);
          behind = others.0;
          joinable = others.1;
        },
      )

-- none is there then
pub taken_left : (forwards : Table Awaited) (f : ℕ) (links : OpenLinks) (o : Option Link) → TakesLink f o forwards links → AreLinks links (remove forwards f)
taken_left forwards f links None taken = subst (AreLinks links) (sym (gone_same forwards f taken.0)) taken.1
taken_left forwards f links (Some link) taken = taken.3

-- where one goes, the others have no less place
place_without : (forwards : Table Awaited) (f : ℕ) (a : Awaited) → HasPlace a forwards → HasPlace a (remove forwards f)
place_without forwards f a place for_store = each (get forwards f) refl
  where
    as_before : (rest : ℕ) → rest ≡ 0 + rest
    as_before rest = omega arith

    true_false : true ≡ false → ⊥
    true_false e = cc

    no_more : (b : Bool) (rest : ℕ) → nat_lt 0 (cond b 1 0 + rest) ≡ false → nat_lt 0 rest ≡ false
    no_more true rest none = absurd (true_false (sym (one_more rest) ∙ none))
    no_more false rest none = ap (nat_lt 0) (as_before rest) ∙ none

    each : (o : Option Awaited) → get forwards f ≡ o → list_any (is_behind a.forward.target) (values (remove forwards f)) ≡ false
    each None gone = subst (λ (t : Table Awaited). list_any (is_behind a.forward.target) (values t) ≡ false) (sym (gone_same forwards f gone)) (place for_store)
    each (Some x) there =
        any_of_count (is_behind a.forward.target) (values (remove forwards f))
        ∙ no_more (is_behind a.forward.target x) _
        (ap (nat_lt 0) (sym (count_gone (is_behind a.forward.target) forwards f x there)) ∙ sym (any_of_count (is_behind a.forward.target) (values forwards)) ∙ place for_store)

-- one is put in
pub puts_link : (taken noted : OpenLinks) (forwards : Table Awaited) (f : ℕ) (link : Link) (a : Awaited) (o : Option Link) (by_number : BTreeMap ℕ Link) (old : Option Link)
    → TakesLink f o forwards taken → IsLink link a → HasPlace a forwards → noted.by_number ≡ taken.by_number
    → ((table : Table Awaited) (b : Awaited) → AreBehind taken.behind table → AreGrouped by_target is_joinable_for taken.joinable.sets table → get table f ≡ None → b.forward ≡ link.forward
    → HasPlace b table → AreBehind noted.behind (insert table f b) × AreGrouped by_target is_joinable_for noted.joinable.sets (insert table f b))
    → Updates nat_cmp noted.by_number by_number f (Some link) → old ≡ kept_at nat_cmp noted.by_number f
    → btree_map_len by_number ≡ btree_map_len noted.by_number + cond (is_some old) 0 1
    → AreLinks (record { by_number = by_number; behind = noted.behind; joinable = noted.joinable }) (insert forwards f a)
puts_link taken noted forwards f link a o by_number old takes like place by_number-is notes updates old-is len =
    let left = taken_left forwards f taken o takes in
    let others = notes (remove forwards f) a left.behind left.joinable (get_gone forwards f) (sym like.forward) (place_without forwards f a place) in record {
      by_number = subst (AreAlike IsLink by_number) (put_back forwards f a)
          (alike_put IsLink noted.by_number by_number (remove forwards f) f link a old
          (subst (λ (m : BTreeMap ℕ Link). AreAlike IsLink m (remove forwards f)) (sym by_number-is) left.by_number) like updates old-is len);
      behind = subst (AreBehind noted.behind) (put_back forwards f a) others.0;
      joinable = subst (AreGrouped by_target is_joinable_for noted.joinable.sets) (put_back forwards f a) others.1;
    }

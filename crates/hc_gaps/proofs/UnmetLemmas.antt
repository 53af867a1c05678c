-- Members that are named one after another.
use Rattle.std.proofs.Common.{◌≡◌, ◌<◌, ◌≤◌, ◌++◌, ◌+◌, ◌-◌, ◌^◌, min, ℕ, Bool, true, cond, List, [], ◌∷◌, length, map, ap, sym, subst, ◌∙◌}
use Rattle.std.proofs.lemmas.List.{append-nil, map-append, length-map}
use Rattle.std.specs.Prelude.{All, filter, not}
use Rattle.hc_update.specs.declared.stored.Stored.{Stored}
use Rattle.hc_history.specs.Allowing.{is_met_or_normalized}
use Rattle.hc_history.specs.Claims.{Claim}
use Rattle.hc_gaps.specs.declared.selecting.Selection.{Selection}
use Rattle.hc_gaps.specs.declared.selecting.UnmetMember.{UnmetMember}
use Rattle.hc_gaps.specs.Selecting.{AreNamed, IsMember, IsTold, is_unmet, most_named}
use Rattle.hc_gaps.proofs.FirstLemmas.{one_counted, one_named}
use Rattle.hc_gaps.proofs.ListedLemmas.{all_more}

abbrev names : List UnmetMember → List (List ℕ)
names found = map (λ (one : UnmetMember). one.member) found

-- one more is named, where there is room
named : (claim : Claim) (state : Stored) (members : List (List ℕ)) (member : List ℕ) (found new : Selection) (one : UnmetMember)
    → length found.unmet.items < most_named → new.unmet.items ≡ found.unmet.items ++ one ∷ [] → new.more ≡ found.more
    → IsMember claim state member one
    → AreNamed claim state members found → AreNamed claim state (members ++ member ∷ []) new
named claim state members member found new one room items more is are =
    let same = ap names items ∙ map-append (λ (u : UnmetMember). u.member) found.unmet.items (one ∷ [])
    ∙ ap (λ (m : List ℕ). names found.unmet.items ++ m ∷ []) is.member_is in
    let first = one_named most_named members (names found.unmet.items) found.more member
    (subst (λ (n : ℕ). n < most_named) (sym (length-map found.unmet.items (λ (u : UnmetMember). u.member))) room) are.first in
    record {
      each = all_more (IsTold claim state) found.unmet.items new.unmet.items one items
          (subst (λ (m : List ℕ). IsMember claim state m one) (sym is.member_is) is) are.each;
      first = record { first = same ∙ first.first; others = more ∙ first.others };
    }

-- one that is met is passed over
pub passed_over : (claim : Claim) (state : Stored) (members : List (List ℕ)) (member : List ℕ) (found : Selection) → is_met_or_normalized claim state member ≡ true
    → AreNamed claim state members found → AreNamed claim state (members ++ filter (is_unmet claim state) (member ∷ [])) found
passed_over claim state members member found met are =
    subst (λ (b : Bool). AreNamed claim state (members ++ cond (not b) (member ∷ []) []) found) (sym met)
    (subst (λ (ms : List (List ℕ)). AreNamed claim state ms found) (sym (append-nil members)) are)

-- one that is unmet is named
pub taken : (claim : Claim) (state : Stored) (members : List (List ℕ)) (member : List ℕ) (found new : Selection) (one : UnmetMember)
    → is_unmet claim state member ≡ true → length found.unmet.items < most_named
    → new.unmet.items ≡ found.unmet.items ++ one ∷ [] → new.more ≡ found.more → IsMember claim state member one
    → AreNamed claim state members found → AreNamed claim state (members ++ filter (is_unmet claim state) (member ∷ [])) new
taken claim state members member found new one unmet room items more is are =
    subst (λ (b : Bool). AreNamed claim state (members ++ cond b (member ∷ []) []) new) (sym unmet)
    (named claim state members member found new one room items more is are)

-- or counted, where there is no room
pub counted : (claim : Claim) (state : Stored) (members : List (List ℕ)) (member : List ℕ) (found new : Selection)
    → is_unmet claim state member ≡ true → most_named ≤ length found.unmet.items
    → new.unmet.items ≡ found.unmet.items → new.more ≡ min (found.more + 1) (2 ^ 64 - 1)
    → AreNamed claim state members found → AreNamed claim state (members ++ filter (is_unmet claim state) (member ∷ [])) new
counted claim state members member found new unmet full items more are =
    let first = one_counted most_named members (names found.unmet.items) found.more member
    (subst (λ (n : ℕ). most_named ≤ n) (sym (length-map found.unmet.items (λ (u : UnmetMember). u.member))) full) are.first in
    subst (λ (b : Bool). AreNamed claim state (members ++ cond b (member ∷ []) []) new) (sym unmet)
    (record {
      each = subst (λ (all : List UnmetMember). All (IsTold claim state) all) (sym items) are.each;
      first = record { first = ap names items ∙ first.first; others = more ∙ first.others };
    })

-- Names among those that are compared, and among those that are listed.
use Rattle.std.proofs.Common.{◌≡◌, ◌==◌, arith, ◌||◌, ◌<◌, ◌≤◌, ◌++◌, ◌+◌, ◌-◌, ◌^◌, min, cond, Bool, Bor, true, false, ℕ, List, [], ◌∷◌, if◌then◌else◌, length, drop, get_or, map, refl, ap, sym, subst, ◌∙◌}
use Rattle.std.specs.List.{list_any}
use Rattle.std.specs.Prelude.{All, filter}
use Rattle.std.specs.Str.{bytes_eq}
use Rattle.std.proofs.lemmas.List.{append-nil, drop-append-le, drop_all, drop_more, length-map, length_push, map-append}
use Rattle.hc_fields.specs.declared.fields.Field.{Field}
use Rattle.hc_head.specs.Statuses.{not_modified}
use Rattle.hc_rules.specs.Conditions.{repeated_names}
use Rattle.hc_update.specs.declared.stored.Stored.{Stored}
use Rattle.hc_history.specs.Claims.{Claim}
use Rattle.hc_history.specs.Filters.{compared_names, names_of}
use Rattle.hc_gaps.specs.declared.differing.Change.{Change}
use Rattle.hc_gaps.specs.declared.differing.Differences.{Differences}
use Rattle.hc_gaps.specs.declared.differing.FieldGap.{FieldGap}
use Rattle.hc_gaps.specs.declared.differing.Freedom.{Freedom}
use Rattle.hc_gaps.specs.declared.differing.Freedom.TheVariants.{Nothing}
use Rattle.hc_gaps.specs.Demanding.{is_freedom}
use Rattle.hc_gaps.specs.Differing.{AreListed, IsGap, change_of, differs, freedom_by, freedom_of, gravest_in, gravest_with, most_listed, with_name, with_names}
use Rattle.hc_gaps.proofs.FirstLemmas.{goes_on, no_room_left, one_counted, one_named, room_left}
use Rattle.hc_gaps.proofs.GravestLemmas.{gravest_more}
use Rattle.hc_gaps.proofs.ListedLemmas.{all_more}

-- ---- those that are compared

abbrev pub plain : List (Bor (List ℕ)) → List (List ℕ)
plain names = map (λ (known : Bor (List ℕ)). known.now) names

any_plain : (n : List ℕ) (names : List (Bor (List ℕ))) → list_any (λ known. bytes_eq known n) (plain names) ≡ list_any (λ (known : Bor (List ℕ)). bytes_eq known.now n) names
any_plain n [] = refl
any_plain n (known ∷ names) = ap (λ (b : Bool). bytes_eq known.now n || b) (any_plain n names)

-- a name that is there already, and one that isn't
pub stays : (names : List (Bor (List ℕ))) (n : List ℕ) → list_any (λ (known : Bor (List ℕ)). bytes_eq known.now n) names ≡ true
    → plain names ≡ with_name (plain names) n
unfolding with_name
stays names n there = sym (ap (λ (b : Bool). if b then plain names else plain names ++ n ∷ []) (any_plain n names ∙ there))

pub grows : (names new : List (Bor (List ℕ))) (name : Bor (List ℕ)) → list_any (λ (known : Bor (List ℕ)). bytes_eq known.now name.now) names ≡ false
    → new ≡ names ++ name ∷ [] → plain new ≡ with_name (plain names) name.now
unfolding with_name
grows names new name other is =
    ap plain is ∙ map-append (λ (known : Bor (List ℕ)). known.now) names (name ∷ [])
    ∙ sym (ap (λ (b : Bool). if b then plain names else plain names ++ name.now ∷ []) (any_plain name.now names ∙ other))

in_two : (names one other : List (List ℕ)) → with_names (with_names names one) other ≡ with_names names (one ++ other)
in_two names [] other = refl
in_two names (n ∷ one) other = in_two (with_name names n) one other

-- of a 304, and of another reply
pub of_304 : (names : List (List ℕ)) (claim : Claim) (state : Stored) → (claim.reply.head.status == not_modified) ≡ true
    → with_names (with_names names (names_of claim.reply.head.fields)) repeated_names ≡ with_names names (compared_names claim state)
of_304 names claim state is =
    in_two names (names_of claim.reply.head.fields) repeated_names
    ∙ ap (λ (b : Bool). with_names names (names_of claim.reply.head.fields ++ (if b then repeated_names else names_of state.fields))) (sym is)

pub of_other : (names : List (List ℕ)) (claim : Claim) (state : Stored) → (claim.reply.head.status == not_modified) ≡ false
    → with_names (with_names names (names_of claim.reply.head.fields)) (names_of state.fields) ≡ with_names names (compared_names claim state)
of_other names claim state is =
    in_two names (names_of claim.reply.head.fields) (names_of state.fields)
    ∙ ap (λ (b : Bool). with_names names (names_of claim.reply.head.fields ++ (if b then repeated_names else names_of state.fields))) (sym is)

-- behind a line or a name more
pub line_taken : (names new all : List (List ℕ)) (lines : List Field) (i : ℕ) (d : Field) → i < length lines
    → new ≡ with_name names (get_or lines i d).name
    → with_names names (names_of (drop i lines)) ≡ all → with_names new (names_of (drop (i + 1) lines)) ≡ all
line_taken names new all lines i d within is was =
    ap (λ (known : List (List ℕ)). with_names known (names_of (drop (i + 1) lines))) is
    ∙ sym (ap (λ (left : List Field). with_names names (names_of left)) (drop_more lines i d within))
    ∙ was

pub name_taken : (names new all : List (List ℕ)) (more : List (Bor (List ℕ))) (i : ℕ) (d : Bor (List ℕ)) → i < length more
    → new ≡ with_name names (get_or more i d).now
    → with_names names (plain (drop i more)) ≡ all → with_names new (plain (drop (i + 1) more)) ≡ all
name_taken names new all more i d within is was =
    ap (λ (known : List (List ℕ)). with_names known (plain (drop (i + 1) more))) is
    ∙ sym (ap (λ (left : List (Bor (List ℕ))). with_names names (plain left)) (drop_more more i d within))
    ∙ was

-- ---- those that are listed

abbrev listed : List FieldGap → List (List ℕ)
listed gaps = map (λ (gap : FieldGap). gap.name) gaps

-- none is left behind those that are listed, or one more is
none_behind : (claim : Claim) (state : Stored) (names : List (List ℕ)) (name : List ℕ) → length names + 1 ≤ most_listed
    → gravest_in claim state (drop most_listed names) ≡ gravest_in claim state (drop most_listed (names ++ name ∷ []))
none_behind claim state names name room =
    ap (gravest_in claim state) (drop_all most_listed names (omega arith))
    ∙ sym (ap (gravest_in claim state) (drop_all most_listed (names ++ name ∷ []) (subst (λ (n : ℕ). n ≤ most_listed) (sym (length_push names name)) room)))

one_behind : (names : List (List ℕ)) (name : List ℕ) → most_listed ≤ length names → drop most_listed (names ++ name ∷ []) ≡ drop most_listed names ++ name ∷ []
one_behind names name full = drop-append-le most_listed names (name ∷ []) full

-- one more is listed, where there is room
one_listed : (claim : Claim) (state : Stored) (names : List (List ℕ)) (name : List ℕ) (found new : Differences) (gap : FieldGap)
    → length found.listed.items < most_listed → new.listed.items ≡ found.listed.items ++ gap ∷ [] → new.more ≡ found.more → new.unlisted ≡ found.unlisted
    → IsGap claim state gap → gap.name ≡ name
    → AreListed claim state names found → AreListed claim state (names ++ name ∷ []) new
one_listed claim state names name found new gap room items more others is name-is are =
    let same = ap listed items ∙ map-append (λ (g : FieldGap). g.name) found.listed.items (gap ∷ [])
    ∙ ap (λ (m : List ℕ). listed found.listed.items ++ m ∷ []) name-is in
    let there = subst (λ (n : ℕ). n < most_listed) (sym (length-map found.listed.items (λ (g : FieldGap). g.name))) room in
    let first = one_named most_listed names (listed found.listed.items) found.more name there are.first in
    record {
      each = all_more (IsGap claim state) found.listed.items new.listed.items gap items is are.each;
      first = record { first = same ∙ first.first; others = more ∙ first.others };
      gravest = others ∙ are.gravest ∙ none_behind claim state names name (room_left most_listed names (listed found.listed.items) found.more there are.first);
    }

-- one more is counted, where there is none
one_over : (claim : Claim) (state : Stored) (names : List (List ℕ)) (name : List ℕ) (found new : Differences) (change : Change) (unfree : Bool)
    → most_listed ≤ length found.listed.items → new.listed.items ≡ found.listed.items → new.more ≡ min (found.more + 1) (2 ^ 64 - 1)
    → change ≡ change_of claim state name → unfree ≡ is_freedom (freedom_of claim state name) Nothing → new.unlisted ≡ gravest_with found.unlisted change unfree
    → AreListed claim state names found → AreListed claim state (names ++ name ∷ []) new
one_over claim state names name found new change unfree full items more change-is unfree-is others are =
    let many = subst (λ (n : ℕ). most_listed ≤ n) (sym (length-map found.listed.items (λ (g : FieldGap). g.name))) full in
    let first = one_counted most_listed names (listed found.listed.items) found.more name many are.first in
    record {
      each = subst (λ (gaps : List FieldGap). All (IsGap claim state) gaps) (sym items) are.each;
      first = record { first = ap listed items ∙ first.first; others = more ∙ first.others };
      gravest = gravest_more claim state (drop most_listed names) name found.unlisted new.unlisted change unfree change-is unfree-is are.gravest others
          ∙ ap (gravest_in claim state) (sym (one_behind names name (no_room_left most_listed names (listed found.listed.items) found.more many are.first)));
    }

-- one that doesn't differ is neither
pub passed_over : (claim : Claim) (state : Stored) (names : List (List ℕ)) (name : List ℕ) (found : Differences) → differs claim state name ≡ false
    → AreListed claim state names found → AreListed claim state (names ++ filter (differs claim state) (name ∷ [])) found
passed_over claim state names name found same are =
    subst (λ (b : Bool). AreListed claim state (names ++ cond b (name ∷ []) []) found) (sym same)
    (subst (λ (all : List (List ℕ)). AreListed claim state all found) (sym (append-nil names)) are)

-- what permits it, by what became of it
by_change : (claim : Claim) (state : Stored) (name : List ℕ) (became : Change) → became ≡ change_of claim state name → freedom_by claim state name became ≡ freedom_of claim state name
by_change claim state name became is = ap (freedom_by claim state name) is

-- one that differs is listed, or counted
pub taken : (claim : Claim) (state : Stored) (names : List (List ℕ)) (name : List ℕ) (found new : Differences) (gap : FieldGap)
    → differs claim state name ≡ true → length found.listed.items < most_listed
    → new.listed.items ≡ found.listed.items ++ gap ∷ [] → new.more ≡ found.more → new.unlisted ≡ found.unlisted
    → gap.name ≡ name → gap.change ≡ change_of claim state name → gap.freedom ≡ freedom_by claim state name gap.change
    → AreListed claim state names found → AreListed claim state (names ++ filter (differs claim state) (name ∷ [])) new
taken claim state names name found new gap other room items more others name-is change-is freedom-is are =
    let freedom : gap.freedom ≡ freedom_of claim state name = freedom-is ∙ by_change claim state name gap.change change-is in
    subst (λ (b : Bool). AreListed claim state (names ++ cond b (name ∷ []) []) new) (sym other)
    (one_listed claim state names name found new gap room items more others
    (record {
      differs_is = ap (differs claim state) name-is ∙ other;
      change_is = change-is ∙ ap (change_of claim state) (sym name-is);
      freedom_is = freedom ∙ ap (freedom_of claim state) (sym name-is);
    })
    name-is are)

pub counted : (claim : Claim) (state : Stored) (names : List (List ℕ)) (name : List ℕ) (found new : Differences) (change : Change) (freedom : Freedom) (unfree : Bool)
    → differs claim state name ≡ true → most_listed ≤ length found.listed.items
    → new.listed.items ≡ found.listed.items → new.more ≡ min (found.more + 1) (2 ^ 64 - 1)
    → change ≡ change_of claim state name → freedom ≡ freedom_by claim state name change → unfree ≡ is_freedom freedom Nothing
    → new.unlisted ≡ gravest_with found.unlisted change unfree
    → AreListed claim state names found → AreListed claim state (names ++ filter (differs claim state) (name ∷ [])) new
counted claim state names name found new change freedom unfree other full items more change-is freedom-is unfree-is others are =
    subst (λ (b : Bool). AreListed claim state (names ++ cond b (name ∷ []) []) new) (sym other)
    (one_over claim state names name found new change unfree full items more change-is
    (unfree-is ∙ ap (λ (f : Freedom). is_freedom f Nothing) (freedom-is ∙ by_change claim state name change change-is)) others are)

-- those so far, and those that are left behind a name more
pub on_to : (p : List ℕ → Bool) (so_far all : List (List ℕ)) (items : List (Bor (List ℕ))) (i : ℕ) (d : Bor (List ℕ)) → i < length items
    → so_far ++ filter p (plain (drop i items)) ≡ all → (so_far ++ filter p ((get_or items i d).now ∷ [])) ++ filter p (plain (drop (i + 1) items)) ≡ all
on_to p so_far all items i d within is =
    goes_on p so_far (plain (drop i items)) (plain (drop (i + 1) items)) all (get_or items i d).now (ap plain (drop_more items i d within)) is

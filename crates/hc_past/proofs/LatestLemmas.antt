-- The latest ends, where all targets are remembered.
use Rattle.std.proofs.Common.{◌≡◌, ◌≤◌, ◌<◌, ◌+◌, ◌-◌, ℕ, List, [], ◌∷◌, ◌++◌, map, drop, take, length, get_or, Option, Some, None, refl, sym, ap, ◌∙◌, subst, arith, length-append}
use Rattle.std.proofs.lemmas.List.{map-append, take-append-le, drop-append-le, drop_more, take_more, length-drop, length-map, get_or-map}
use Rattle.std.proofs.lemmas.List.Sums.{fold-append}
use Rattle.hc_framing.specs.declared.message.Message.{Message}
use Rattle.hc_head.specs.declared.head.ResponseHead.{ResponseHead}
use Rattle.hc_shown.specs.declared.teller.RecordName.{RecordName}
use Rattle.hc_transcript.specs.Items.{Forward}
use Rattle.hc_past.specs.declared.past.End.{End}
use Rattle.hc_past.specs.Remembered.{EndSeen, answered_by, any_ends_with, end_by, end_seen, last_place, short_end}

-- the first of a list, and what is left
first_is : {X : Type 0} (x y : X) (xs ys : List X) → x ∷ xs ≡ y ∷ ys → x ≡ y
first_is {X = X} x y xs ys is = ap (λ (l : List X). get_or l 0 x) is

rest_is : {X : Type 0} (x y : X) (xs ys : List X) → x ∷ xs ≡ y ∷ ys → xs ≡ ys
rest_is {X = X} x y xs ys is = ap (λ (l : List X). drop 1 l) is

-- ---- room for one more

-- where there is room, nothing is to be forgotten
pub has_room : (ends kept : List EndSeen) (most less : ℕ) → less + 1 ≡ most → kept ≡ drop (length ends - most) (map short_end ends) → length kept + 1 ≤ most
    → length ends - most ≡ length ends - less
has_room ends kept most less one is few =
    let left : length kept ≡ length ends - (length ends - most) = ap length is ∙ length-drop (length ends - most) (map short_end ends)
    ∙ ap (λ (n : ℕ). n - (length ends - most)) (length-map ends short_end) in
    omega (arith, left, few, one)

-- else the oldest is forgotten
pub forgets : (ends kept : List EndSeen) (oldest : EndSeen) (most less : ℕ) → less + 1 ≡ most → oldest ∷ kept ≡ drop (length ends - most) (map short_end ends)
    → most ≤ length (oldest ∷ kept) → (kept ≡ drop (length ends - less) (map short_end ends)) × (oldest.name.position ≡ last_place (take (length ends - less) ends))
forgets ends kept oldest most less one is full =
    let n = length ends - most in
    let left : length (oldest ∷ kept) ≡ length ends - n = ap length is ∙ length-drop n (map short_end ends)
    ∙ ap (λ (k : ℕ). k - n) (length-map ends short_end) in
    let next : length ends - less ≡ n + 1 = omega (arith, left, full, one) in
    let within : n < length ends = omega (arith, left, full, one) in
    let that = get_or ends n oldest in
    let shorts = drop_more (map short_end ends) n oldest (subst (λ (k : ℕ). n < k) (sym (length-map ends short_end)) within) in
    let first : oldest ≡ get_or (map short_end ends) n oldest = first_is oldest _ kept _ (is ∙ shorts) in
    let mapped : get_or (map short_end ends) n oldest ≡ short_end that = get_or-map short_end ends n oldest oldest within in
    let place : oldest.name.position ≡ that.name.position = ap (λ (e : EndSeen). e.name.position) (first ∙ mapped) in
    let taken : last_place (take (n + 1) ends) ≡ that.name.position =
    ap last_place (take_more ends n oldest within) ∙ fold-append (λ (before : ℕ) (end : EndSeen). end.name.position) 0 (take n ends) (that ∷ []) in (
      rest_is oldest _ kept _ (is ∙ shorts) ∙ ap (λ (k : ℕ). drop k (map short_end ends)) (sym next),
      place ∙ sym taken ∙ ap (λ (k : ℕ). last_place (take k ends)) (sym next),
    )

pub forgets_one : (ends : List EndSeen) (old kept : List End) (oldest : End) (most less : ℕ) → less + 1 ≡ most → old ≡ oldest ∷ kept
    → map end_seen old ≡ drop (length ends - most) (map short_end ends) → most ≤ length old
    → (map end_seen kept ≡ drop (length ends - less) (map short_end ends)) × (oldest.named.position ≡ last_place (take (length ends - less) ends))
forgets_one ends old kept oldest most less one is latest full =
    let same : length (end_seen oldest ∷ map end_seen kept) ≡ length old = ap (λ (es : List End). length (map end_seen es)) (sym is) ∙ length-map old end_seen in
    forgets ends (map end_seen kept) (end_seen oldest) most less one (ap (map end_seen) (sym is) ∙ latest) (omega (arith, same, full))

-- ---- one more

length_more : (ends : List EndSeen) (end : EndSeen) (most less : ℕ) → less + 1 ≡ most → length (ends ++ end ∷ []) - most ≡ length ends - less
length_more ends end most less one = let more : length (ends ++ end ∷ []) ≡ length ends + 1 = length-append ends (end ∷ []) in omega (arith, more, one)

pub adds : (ends kept : List EndSeen) (end : EndSeen) (most less : ℕ) → less + 1 ≡ most → kept ≡ drop (length ends - less) (map short_end ends)
    → kept ++ short_end end ∷ [] ≡ drop (length (ends ++ end ∷ []) - most) (map short_end (ends ++ end ∷ []))
adds ends kept end most less one is =
    let within : length ends - less ≤ length (map short_end ends) = subst (λ (k : ℕ). length ends - less ≤ k) (sym (length-map ends short_end)) (omega arith) in
    ap (λ (es : List EndSeen). es ++ short_end end ∷ []) is
    ∙ sym (drop-append-le (length ends - less) (map short_end ends) (short_end end ∷ []) within)
    ∙ ap (drop (length ends - less)) (sym (map-append short_end ends (end ∷ [])))
    ∙ ap (λ (k : ℕ). drop k (map short_end (ends ++ end ∷ []))) (sym (length_more ends end most less one))

pub same_place : (ends : List EndSeen) (end : EndSeen) (most less : ℕ) → less + 1 ≡ most
    → last_place (take (length ends - less) ends) ≡ last_place (take (length (ends ++ end ∷ []) - most) (ends ++ end ∷ []))
same_place ends end most less one =
    ap last_place (sym (take-append-le (length ends - less) ends (end ∷ []) (omega arith)))
    ∙ ap (λ (k : ℕ). last_place (take k (ends ++ end ∷ []))) (sym (length_more ends end most less one))

-- where no forward was open, nothing is added
pub none_ended_of_all : (name : RecordName) (cause : Option ℕ) (answer : Option (Message ResponseHead)) (o : Option Forward) (ends : List EndSeen)
    → None ≡ o → ends ≡ any_ends_with name cause answer o ends
none_ended_of_all name cause answer o ends is = subst (λ (f : Option Forward). ends ≡ any_ends_with name cause answer f ends) is refl

-- else its end is, which is remembered with its body, if that isn't too long
pub one_ended_of_all : (name : RecordName) (cause told : Option ℕ) (answer : Option (Message ResponseHead)) (o : Option Forward) (ends : List EndSeen) (forward : Forward)
    → Some forward ≡ o → told ≡ cause → any_ends_with name cause answer o ends ≡ ends ++ end_by name told answer forward ∷ []
one_ended_of_all name cause told answer o ends forward is cause_is =
    subst (λ (f : Option Forward). any_ends_with name cause answer f ends ≡ ends ++ end_by name told answer forward ∷ []) is
    (ap (λ (c : Option ℕ). ends ++ end_by name c answer forward ∷ []) (sym cause_is))

pub short_ended : (name : RecordName) (told : Option ℕ) (answer : Option (Message ResponseHead)) (forward : Forward) (begun end : EndSeen)
    → begun ≡ end_by name told None forward → end ≡ short_end (answered_by answer begun) → end ≡ short_end (end_by name told answer forward)
short_ended name told answer forward begun end begun_is end_is = end_is ∙ ap (λ (e : EndSeen). short_end (answered_by answer e)) begun_is

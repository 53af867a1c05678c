-- What one reply more makes of what is found at a position.
use Rattle.std.proofs.Common.{◌≡◌, ◌≢◌, ◌==◌, ◌≤◌, ◌-◌, ◌&&◌, ℕ, suc, Bool, true, false, List, [], ◌∷◌, ◌++◌, Option, Some, None, drop, is_some, length, nat_le, IfSome, refl, sym, ap, subst, ◌∙◌, arith}
use Rattle.std.specs.Prelude.{if◌then◌else◌}
use Rattle.std.proofs.lemmas.Bool.Decides.{nat_tests}
use Rattle.std.specs.Option.{option_or}
use Rattle.hc_history.specs.declared.reasons.Reason.{Reason}
use Rattle.hc_history.specs.declared.verdicts.Finding.{Finding}
use Rattle.hc_history.specs.declared.verdicts.Finding.TheVariants.{Right, Wrong}
use Rattle.hc_history.specs.declared.wrong.WrongReply.{WrongReply}
use Rattle.hc_audit.specs.Hearing.{is_reply}
use Rattle.hc_audit.specs.Told.{wrong_of}
use Rattle.hc_why.specs.declared.found.FoundReply.{FoundReply}
use Rattle.hc_why.specs.declared.seeking.ReplyAt.{ReplyAt}
use Rattle.hc_why.specs.Found.{finding_of, position_of}
use Rattle.hc_why.specs.Seeking.{HasFoundAmong, HasHeard, IsFoundAt, IsOfPlace, reason_in, wrong_at}
use Rattle.hc_past.specs.Standing.{answered, exchange_at, newest_exchange, stands_at}
use Rattle.hc_transcript.specs.Items.{ClientReply, ClientRequest, Item, OriginFailure, OriginRequest, OriginResponse}
use Rattle.hc_transcript.specs.History.{next_position}

-- ---- what stands at a place in a list, and in one behind it

choice : (here : Bool) (why : Reason) (one other : Option Reason)
    → (if here then Some why else option_or one other) ≡ option_or (if here then Some why else one) other
choice true why one other = refl
choice false why one other = refl

in_either : (place : ℕ) (one other : List WrongReply) → wrong_at place (one ++ other) ≡ option_or (wrong_at place one) (wrong_at place other)
in_either place [] other = refl
in_either place (wrong ∷ one) other =
    ap (λ found. if wrong.position == place then Some wrong.reason else found) (in_either place one other)
    ∙ choice (wrong.position == place) wrong.reason (wrong_at place one) (wrong_at place other)

-- ---- a reply more

at_another : (place position : ℕ) (finding : Finding) → (position == place) ≡ false → wrong_at place (wrong_of position finding) ≡ None
at_another place position Right other = refl
at_another place position (Wrong why) other = ap (λ here. if here then Some why else None) other

at_the_same : (place position : ℕ) (finding : Finding) → (position == place) ≡ true → wrong_at place (wrong_of position finding) ≡ reason_in finding
at_the_same place position Right same = refl
at_the_same place position (Wrong why) same = ap (λ here. if here then Some why else None) same

or_none : (one other : Option Reason) → other ≡ None → option_or one other ≡ one
or_none None other none = none
or_none (Some why) other none = refl

-- one elsewhere changes nothing
elsewhere : (place position : ℕ) (finding : Finding) (wrongs : List WrongReply) → (position == place) ≡ false
    → wrong_at place (wrongs ++ wrong_of position finding) ≡ wrong_at place wrongs
elsewhere place position finding wrongs other =
    in_either place wrongs (wrong_of position finding)
    ∙ or_none (wrong_at place wrongs) (wrong_at place (wrong_of position finding)) (at_another place position finding other)

-- nor does one where a wrong reply stood before
known : (place position : ℕ) (finding : Finding) (wrongs : List WrongReply) (reason : Option Reason) → is_some reason ≡ true → reason ≡ wrong_at place wrongs
    → wrong_at place (wrongs ++ wrong_of position finding) ≡ wrong_at place wrongs
known place position finding wrongs None some is = absurd (cc)
known place position finding wrongs (Some why) some is =
    in_either place wrongs (wrong_of position finding)
    ∙ ap (λ found. option_or found (wrong_at place (wrong_of position finding))) (sym is) ∙ is

-- else it is the one there
here : (place position : ℕ) (finding : Finding) (wrongs : List WrongReply) (reason : Option Reason) → (position == place) ≡ true → is_some reason ≡ false
    → reason ≡ wrong_at place wrongs → wrong_at place (wrongs ++ wrong_of position finding) ≡ reason_in finding
here place position finding wrongs None same none is =
    in_either place wrongs (wrong_of position finding)
    ∙ ap (λ found. option_or found (wrong_at place (wrong_of position finding))) (sym is)
    ∙ at_the_same place position finding same
here place position finding wrongs (Some why) same none is = absurd (cc)

-- ---- what is found

not_same : (position place : ℕ) → position ≢ place → (position == place) ≡ false
not_same position place other = grind (arith, nat_tests)

are_same : (position place : ℕ) → position ≡ place → (position == place) ≡ true
are_same position place same = grind (arith, nat_tests)

stays : (seeker : ReplyAt) (wrongs more : List WrongReply) → wrong_at seeker.position more ≡ wrong_at seeker.position wrongs
    → IsFoundAt seeker wrongs → IsFoundAt seeker more
stays seeker wrongs more same before = record {
  reason = before.reason ∙ sym same;
  found = subst (λ (reason : Option Reason). IfSome seeker.found (λ reply. (position_of reply ≡ seeker.position) × (reason_in (finding_of reply) ≡ reason)))
      (sym same) before.found;
}

pub stays_elsewhere : (seeker : ReplyAt) (wrongs : List WrongReply) (position : ℕ) (finding : Finding) → position ≢ seeker.position
    → IsFoundAt seeker wrongs → IsFoundAt seeker (wrongs ++ wrong_of position finding)
stays_elsewhere seeker wrongs position finding other before =
    stays seeker wrongs (wrongs ++ wrong_of position finding)
    (elsewhere seeker.position position finding wrongs (not_same position seeker.position other)) before

pub stays_known : (seeker : ReplyAt) (wrongs : List WrongReply) (position : ℕ) (finding : Finding) → is_some seeker.reason ≡ true
    → IsFoundAt seeker wrongs → IsFoundAt seeker (wrongs ++ wrong_of position finding)
stays_known seeker wrongs position finding some before =
    stays seeker wrongs (wrongs ++ wrong_of position finding)
    (known seeker.position position finding wrongs seeker.reason some before.reason) before

is_of_place : (place position : ℕ) (finding : Finding) (wrongs : List WrongReply) (found : Option FoundReply) → position ≡ place
    → wrong_at place wrongs ≡ reason_in finding → IfSome found (λ reply. (position_of reply ≡ position) × (finding_of reply ≡ finding))
    → IfSome found (λ reply. IsOfPlace place wrongs (position_of reply) (finding_of reply))
is_of_place place position finding wrongs None same is told = tt
is_of_place place position finding wrongs (Some reply) same is told = (told.0 ∙ same, ap reason_in told.1 ∙ sym is)

-- the reply there is found
pub is_found : (seeker : ReplyAt) (wrongs : List WrongReply) (position : ℕ) (finding : Finding) (reason : Option Reason) (found : Option FoundReply)
    → position ≡ seeker.position → is_some seeker.reason ≡ false → reason ≡ reason_in finding
    → IfSome found (λ reply. (position_of reply ≡ position) × (finding_of reply ≡ finding)) → IsFoundAt seeker wrongs
    → IsFoundAt record { alloc = seeker.alloc; position = seeker.position; is_behind = seeker.is_behind; reason = reason; found = found } (wrongs ++ wrong_of position finding)
is_found seeker wrongs position finding reason found same none reason-is told before =
    let stands = here seeker.position position finding wrongs seeker.reason (are_same position seeker.position same) none before.reason in
    record {
      reason = reason-is ∙ sym stands;
      found = is_of_place seeker.position position finding (wrongs ++ wrong_of position finding) found same stands told;
    }

-- ---- where a reply stands, as items are added to those among which it stands

le_from : (m n : ℕ) → nat_le m n ≡ true → m ≤ n
le_from m n is = grind (arith, nat_tests)

le_to : (m n : ℕ) → m ≤ n → nat_le m n ≡ true
le_to m n few = grind (arith, nat_tests)

both : (a b : Bool) → a ≡ true → b ≡ true → (a && b) ≡ true
both true true one other = refl
both true false one other = other
both false b one other = absurd cc

first_of_both : (a b : Bool) → (a && b) ≡ true → a ≡ true
first_of_both true b is = refl
first_of_both false b is = absurd cc

second_of_both : (a b : Bool) → (a && b) ≡ true → b ≡ true
second_of_both true b is = is
second_of_both false b is = absurd cc

-- it stands there still
stands_later : (item : Item) (h : List Item) (place : ℕ) → stands_at place h ≡ true → stands_at place (item ∷ h) ≡ true
stands_later item h place there =
    let few = le_from place (length h) (first_of_both (nat_le place (length h)) (is_some (exchange_at place h)) there) in
    let e : length (item ∷ h) - place ≡ suc (length h - place) = omega (arith, few) in
    let same : exchange_at place (item ∷ h) ≡ exchange_at place h = ap (λ (n : ℕ). newest_exchange (drop n (item ∷ h))) e in
    both (nat_le place (length (item ∷ h))) (is_some (exchange_at place (item ∷ h))) (le_to place (length (item ∷ h)) (omega (arith, few)))
    (ap is_some same ∙ second_of_both (nat_le place (length h)) (is_some (exchange_at place h)) there)

-- and the newest stands at the next position
pub position_of_newest : (position : ℕ) (item : Item) (h : List Item) → position ≡ next_position h → position ≤ length (item ∷ h)
position_of_newest position item h is = omega (arith, is)

stands_newest : (item : Item) (h : List Item) (place : ℕ) → place ≡ next_position h → is_some (answered item h) ≡ true → stands_at place (item ∷ h) ≡ true
stands_newest item h place is opened =
    let e : length (item ∷ h) - place ≡ 0 = omega (arith, is) in
    let same : exchange_at place (item ∷ h) ≡ answered item h = ap (λ (n : ℕ). newest_exchange (drop n (item ∷ h))) e in
    both (nat_le place (length (item ∷ h))) (is_some (exchange_at place (item ∷ h))) (le_to place (length (item ∷ h)) (position_of_newest place item h is)) (ap is_some same ∙ opened)

not_below : (m n : ℕ) → nat_le m n ≡ false → m ≤ suc n → m ≡ suc n
not_below m n above most = grind (arith, nat_tests)

-- what stands there among all stood there before, if it isn't the newest
stood_there : (item : Item) (h : List Item) (place : ℕ) (below : Bool) → nat_le place (length h) ≡ below
    → (place ≡ next_position h → is_some (answered item h) ≡ false) → stands_at place (item ∷ h) ≡ true → stands_at place h ≡ true
stood_there item h place true is newest there =
    let few = le_from place (length h) is in
    let e : length (item ∷ h) - place ≡ suc (length h - place) = omega (arith, few) in
    let same : exchange_at place (item ∷ h) ≡ exchange_at place h = ap (λ (n : ℕ). newest_exchange (drop n (item ∷ h))) e in
    both (nat_le place (length h)) (is_some (exchange_at place h)) is
    (ap is_some (sym same) ∙ second_of_both (nat_le place (length (item ∷ h))) (is_some (exchange_at place (item ∷ h))) there)
stood_there item h place false is newest there =
    let most : place ≤ suc (length h) = le_from place (length (item ∷ h)) (first_of_both (nat_le place (length (item ∷ h))) (is_some (exchange_at place (item ∷ h))) there) in
    let here : place ≡ suc (length h) = not_below place (length h) is most in
    let next : place ≡ next_position h = omega (arith, here) in
    let e : length (item ∷ h) - place ≡ 0 = omega (arith, here) in
    let same : exchange_at place (item ∷ h) ≡ answered item h = ap (λ (n : ℕ). newest_exchange (drop n (item ∷ h))) e in
    let some : is_some (answered item h) ≡ true =
    ap is_some (sym same) ∙ second_of_both (nat_le place (length (item ∷ h))) (is_some (exchange_at place (item ∷ h))) there in
    let none : is_some (answered item h) ≡ false = newest next in
    absurd (cc)

-- what is no reply answers nothing
pub answers_nothing : (item : Item) (h : List Item) → is_reply item ≡ false → is_some (answered item h) ≡ false
answers_nothing (ClientRequest number moment request target) h is = refl
answers_nothing (OriginRequest number moment request target cause) h is = refl
answers_nothing (OriginResponse number moment response) h is = refl
answers_nothing (OriginFailure number moment) h is = refl
answers_nothing (ClientReply number moment reply) h is = absurd cc

-- so who has found it among the items before has found it among all, where the newest isn't it
pub found_later : (seeker : ReplyAt) (item : Item) (h : List Item) → (seeker.position ≡ next_position h → is_some (answered item h) ≡ false)
    → HasFoundAmong seeker h → HasFoundAmong seeker (item ∷ h)
found_later seeker item h newest before = record {
  stands = λ found. stands_later item h seeker.position (before.stands found);
  there = λ standing. before.there (stood_there item h seeker.position (nat_le seeker.position (length h)) refl newest standing);
  finds = before.finds;
}

-- or where a wrong one was found there before
pub found_already : (seeker : ReplyAt) (item : Item) (h : List Item) → is_some seeker.reason ≡ true → HasFoundAmong seeker h → HasFoundAmong seeker (item ∷ h)
found_already seeker item h wrong before = record {
  stands = λ found. stands_later item h seeker.position (before.stands found);
  there = λ standing. before.finds wrong;
  finds = before.finds;
}

not_some : false ≡ true → ⊥
not_some same = cc

denied : (standing : Bool) (found : Option FoundReply) → (standing ≡ true → is_some found ≡ true) → found ≡ None → standing ≡ false
denied false found is none = refl
denied true None is none = absurd (not_some (is refl))
denied true (Some reply) is none = absurd (cc)

-- where nothing is found, none stands there
pub not_standing : (seeker : ReplyAt) (h : List Item) → HasHeard seeker h → seeker.found ≡ None → stands_at seeker.position h ≡ false
not_standing seeker h heard none = denied (stands_at seeker.position h) seeker.found heard.found.there none

-- and who finds it where it is the newest
pub found_newest : (seeker : ReplyAt) (reason : Option Reason) (found : Option FoundReply) (item : Item) (h : List Item) → seeker.position ≡ next_position h
    → is_some (answered item h) ≡ true → is_some found ≡ true
    → HasFoundAmong record { alloc = seeker.alloc; position = seeker.position; is_behind = seeker.is_behind; reason = reason; found = found } (item ∷ h)
found_newest seeker reason found item h is opened there = record {
  stands = λ found_is. stands_newest item h seeker.position is opened;
  there = λ standing. there;
  finds = λ wrong. there;
}

-- ---- whether the position has passed

pub next_is : (position : ℕ) (h : List Item) → position ≡ next_position h → position ≡ suc (length h)
next_is position h is = omega (arith, is)

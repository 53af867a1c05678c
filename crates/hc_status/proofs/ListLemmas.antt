-- The reader of lists and their grammar say the same of all octets.
use Rattle.std.proofs.Common.{◌≡◌, ℕ, zero, suc, ◌≤◌, Bool, true, false, not, ◌==◌, ◌||◌, List, [], ◌∷◌, ◌++◌, length, Option, Some, None, Result, Ok, Err, ◌⊎◌, inl, inr, refl, sym, ap, subst, ◌∙◌, arith, append_assoc, length-append}
use Rattle.std.specs.List.{AllPass, take_while}
use Rattle.std.proofs.lemmas.Bool.{cond-false, eqb-true}
use Rattle.std.proofs.lemmas.Bool.Decides.{nat_tests}
use Rattle.std.proofs.lemmas.List.{append-nil}
use Rattle.std.proofs.lemmas.List.Elements.{All-head}
use Rattle.hc_status.specs.declared.fault.SfFault.{SfFault}
use Rattle.hc_status.specs.declared.fault.SfFault.TheVariants.{Syntax, InnerList}
use Rattle.hc_status.specs.declared.items.Member.{Member}
use Rattle.hc_status.specs.Classes.{is_space, is_blank}
use Rattle.hc_status.specs.Grammar.{IsMember, IsComma, HaveCommas, IsList, BeginsInnerList}
use Rattle.hc_status.specs.Reading.{behind, result_and_then, ok_or, item_at, member_at, after_member, members_from, members_at, trimmed_list_of, list_of}
use Rattle.hc_status.proofs.RunLemmas.{Ends, Begins, split_cond, behind_run, run_spelled, run_passes, stops_at_start, is_member_end}
use Rattle.hc_status.proofs.MemberLemmas.{member_sound, member_is_read, is_member_start, member_begins}

-- ---- steps of the reader

ok_then : {A B : Type 0} (f : A → Result B SfFault) (first : Result A SfFault) (y : B) → result_and_then f first ≡ Ok y
    → (x : A) × (first ≡ Ok x) × (f x ≡ Ok y)
ok_then f (Ok x) y whole = (x, refl, whole)
ok_then f (Err fault) y whole = absurd (cc)

pub err_then : {A B : Type 0} (f : A → Result B SfFault) (first : Result A SfFault) (fault : SfFault) → result_and_then f first ≡ Err fault
    → (first ≡ Err fault) ⊎ ((x : A) × (first ≡ Ok x) × (f x ≡ Err fault))
err_then f (Ok x) fault whole = inr (x, refl, whole)
err_then f (Err other) fault whole = inl (cc)

found_ok : {A : Type 0} (found : Option A) (x : A) → ok_or Syntax found ≡ Ok x → found ≡ Some x
found_ok (Some y) x whole = cc
found_ok None x whole = absurd (cc)

never_inner : {A : Type 0} (found : Option A) → ok_or Syntax found ≡ Err InnerList → ⊥
never_inner (Some y) whole = cc
never_inner None whole = cc

-- a member that was read is an item
pub member_at_ok : (text : List ℕ) (read : Member × List ℕ) → member_at text ≡ Ok read → item_at text ≡ Some read
member_at_ok [] read whole = absurd (cc)
member_at_ok (b ∷ text) read whole =
    elim (split_cond (b == 40) _ _ _ whole) [
      | inl inner ↦ absurd (let e = inner.1 in cc)
      | inr item ↦ found_ok (item_at (b ∷ text)) read item.1
    ]

member_at_inner : (text : List ℕ) → member_at text ≡ Err InnerList → (more : List ℕ) × (text ≡ 40 ∷ more)
member_at_inner [] whole = absurd (cc)
member_at_inner (b ∷ text) whole =
    elim (split_cond (b == 40) _ _ _ whole) [
      | inl inner ↦ (text, ap (λ (n : ℕ). n ∷ text) (eqb-true b 40 inner.0))
      | inr item ↦ absurd (never_inner (item_at (b ∷ text)) item.1)
    ]

-- where a member begins, the item is read
member_at_item : (text : List ℕ) (read : Member × List ℕ) → Begins is_member_start text → item_at text ≡ Some read → member_at text ≡ Ok read
member_at_item [] read begins found = absurd begins
member_at_item (b ∷ text) read begins found =
    let item : (b == 40) ≡ false = grind (arith, nat_tests) in
    cond-false (b == 40) _ _ item ∙ ap (ok_or Syntax) found

-- ---- what is read as a list is spelled as that list

-- the text is members that stand behind those
record SpellsMembers (before : List Member) (text : List ℕ) (list : List Member) : Type 0 where
  members : List Member
  last : Member
  front : List ℕ
  last_text : List ℕ
  blanks : List ℕ
  have_commas : HaveCommas members front
  is_last : IsMember last last_text
  are_blanks : AllPass is_blank blanks
  spelled : text ≡ front ++ (last_text ++ blanks)
  list_is : list ≡ before ++ (members ++ last ∷ [])

-- an inner list begins in the text behind members
record SpellsInner (text : List ℕ) : Type 0 where
  members : List Member
  front : List ℕ
  more : List ℕ
  have_commas : HaveCommas members front
  spelled : text ≡ front ++ 40 ∷ more

-- the comma behind a member, and the white space about it
comma_of : List ℕ → List ℕ → List ℕ
comma_of blanks text = blanks ++ 44 ∷ take_while is_blank text

comma_is : (blanks text : List ℕ) → AllPass is_blank blanks → IsComma (comma_of blanks text)
unfolding comma_of
comma_is blanks text are = record {
  before = blanks;
  behind = take_while is_blank text;
  blank_before = are;
  blank_behind = run_passes is_blank text;
  spelled = refl;
}

-- a member, its comma, and what stands behind that
behind_comma : (text one blanks more front tail : List ℕ) (b : ℕ) → (b == 44) ≡ true → text ≡ one ++ (blanks ++ b ∷ more) → behind is_blank more ≡ front ++ tail
    → text ≡ (one ++ (comma_of blanks more ++ front)) ++ tail
unfolding comma_of
behind_comma text one blanks more front tail b comma cut later =
    let run = take_while is_blank more in
    let shown : more ≡ run ++ (front ++ tail) = run_spelled is_blank more ∙ ap (λ (l : List ℕ). run ++ l) later in
    let regroup : blanks ++ 44 ∷ (run ++ (front ++ tail)) ≡ (comma_of blanks more ++ front) ++ tail =
    sym (append_assoc blanks (44 ∷ run) (front ++ tail)) ∙ sym (append_assoc (comma_of blanks more) front tail) in
    cut
    ∙ ((λ i. one ++ (blanks ++ eqb-true b 44 comma i ∷ shown i))
    ∙ (ap (λ (l : List ℕ). one ++ l) regroup ∙ sym (append_assoc one (comma_of blanks more ++ front) tail)))

members_step : (before : List Member) (m : Member) (text one blanks rest : List ℕ) (list : List Member) (more : List ℕ → Result (List Member) SfFault)
    → ((t : List ℕ) → more t ≡ Ok list → SpellsMembers (before ++ m ∷ []) t list) → IsMember m one → AllPass is_blank blanks
    → text ≡ one ++ (blanks ++ rest) → after_member (before ++ m ∷ []) more rest ≡ Ok list → SpellsMembers before text list
members_step before m text one blanks [] list more later is are cut found = record {
  members = [];
  last = m;
  front = [];
  last_text = one;
  blanks = blanks;
  have_commas = refl;
  is_last = is;
  are_blanks = are;
  spelled = cut ∙ ap (λ (l : List ℕ). one ++ l) (append-nil blanks);
  list_is = cc;
}
members_step before m text one blanks (b ∷ rest) list more later is are cut found =
    elim (split_cond (b == 44) _ _ _ found) [
      | inl comma ↦
          let tail = later (behind is_blank rest) comma.1 in
          record {
            members = m ∷ tail.members;
            last = tail.last;
            front = one ++ (comma_of blanks rest ++ tail.front);
            last_text = tail.last_text;
            blanks = tail.blanks;
            have_commas = (one, comma_of blanks rest, tail.front, refl, is, comma_is blanks rest are, tail.have_commas);
            is_last = tail.is_last;
            are_blanks = tail.are_blanks;
            spelled = behind_comma text one blanks rest tail.front (tail.last_text ++ tail.blanks) b comma.0 cut tail.spelled;
            list_is = tail.list_is ∙ append_assoc before (m ∷ []) (tail.members ++ tail.last ∷ []);
          }
      | inr other ↦ absurd (let e = other.1 in cc)
    ]

inner_step : (before : List Member) (m : Member) (text one blanks rest : List ℕ) (more : List ℕ → Result (List Member) SfFault)
    → ((t : List ℕ) → more t ≡ Err InnerList → SpellsInner t) → IsMember m one → AllPass is_blank blanks
    → text ≡ one ++ (blanks ++ rest) → after_member (before ++ m ∷ []) more rest ≡ Err InnerList → SpellsInner text
inner_step before m text one blanks [] more later is are cut found = absurd (cc)
inner_step before m text one blanks (b ∷ rest) more later is are cut found =
    elim (split_cond (b == 44) _ _ _ found) [
      | inl comma ↦
          let tail = later (behind is_blank rest) comma.1 in
          record {
            members = m ∷ tail.members;
            front = one ++ (comma_of blanks rest ++ tail.front);
            more = tail.more;
            have_commas = (one, comma_of blanks rest, tail.front, refl, is, comma_is blanks rest are, tail.have_commas);
            spelled = behind_comma text one blanks rest tail.front (40 ∷ tail.more) b comma.0 cut tail.spelled;
          }
      | inr other ↦ absurd (let e = other.1 in cc)
    ]

-- the text is the member, white space and the rest
cut_blanks : (text one rest : List ℕ) → text ≡ one ++ rest → text ≡ one ++ (take_while is_blank rest ++ behind is_blank rest)
cut_blanks text one rest cut = cut ∙ ap (λ (l : List ℕ). one ++ l) (run_spelled is_blank rest)

members_sound : (n : ℕ) (before : List Member) (text : List ℕ) (list : List Member) → members_from n before text ≡ Ok list → SpellsMembers before text list
unfolding members_from
members_sound zero before text list found = absurd (cc)
members_sound (suc n) before text list found =
    let first = ok_then _ (member_at text) list found in
    let m = first.0.0 in
    let rest = first.0.1 in
    let spells = member_sound text first.0 (member_at_ok text first.0 first.1) in
    members_step before m text spells.one (take_while is_blank rest) (behind is_blank rest) list (members_from n (before ++ m ∷ []))
    (λ t later. members_sound n (before ++ m ∷ []) t list later)
    spells.is_member (run_passes is_blank rest) (cut_blanks text spells.one rest spells.spelled) first.2

inner_sound : (n : ℕ) (before : List Member) (text : List ℕ) → members_from n before text ≡ Err InnerList → SpellsInner text
unfolding members_from
inner_sound zero before text found = absurd (cc)
inner_sound (suc n) before text found =
    elim (err_then _ (member_at text) InnerList found) [
      | inl inner ↦
          let more = member_at_inner text inner in
          record { members = []; front = []; more = more.0; have_commas = refl; spelled = more.1 }
      | inr first ↦
          let m = first.0.0 in
          let rest = first.0.1 in
          let spells = member_sound text first.0 (member_at_ok text first.0 first.1) in
          inner_step before m text spells.one (take_while is_blank rest) (behind is_blank rest) (members_from n (before ++ m ∷ []))
          (λ t later. inner_sound n (before ++ m ∷ []) t later)
          spells.is_member (run_passes is_blank rest) (cut_blanks text spells.one rest spells.spelled) first.2
    ]

trimmed_sound : (octets text : List ℕ) (list : List Member) → text ≡ behind is_space octets → trimmed_list_of text ≡ Ok list → IsList list octets
trimmed_sound octets [] list same found =
    let spaces = take_while is_space octets in
    let all : spaces ≡ octets = sym (append-nil spaces) ∙ (ap (λ (l : List ℕ). spaces ++ l) same ∙ sym (run_spelled is_space octets)) in
    inl (cc, subst (λ (l : List ℕ). AllPass is_space l) all (run_passes is_space octets))
trimmed_sound octets (b ∷ text) list same found =
    let spells = members_sound (length (b ∷ text)) [] (b ∷ text) list found in
    let spaces = take_while is_space octets in
    inr (record {
      spaces = spaces;
      members = spells.members;
      last = spells.last;
      front = spells.front;
      last_text = spells.last_text;
      blanks = spells.blanks;
      are_spaces = run_passes is_space octets;
      have_commas = spells.have_commas;
      is_last = spells.is_last;
      are_blanks = spells.are_blanks;
      spelled = run_spelled is_space octets ∙ ap (λ (l : List ℕ). spaces ++ l) (sym same ∙ spells.spelled);
      list_is = spells.list_is;
    })

trimmed_inner : (octets text : List ℕ) → text ≡ behind is_space octets → trimmed_list_of text ≡ Err InnerList → BeginsInnerList octets
trimmed_inner octets [] same found = absurd (cc)
trimmed_inner octets (b ∷ text) same found =
    let spells = inner_sound (length (b ∷ text)) [] (b ∷ text) found in
    let spaces = take_while is_space octets in
    record {
      spaces = spaces;
      members = spells.members;
      front = spells.front;
      more = spells.more;
      are_spaces = run_passes is_space octets;
      have_commas = spells.have_commas;
      spelled = run_spelled is_space octets ∙ ap (λ (l : List ℕ). spaces ++ l) (sym same ∙ spells.spelled);
    }

pub list_sound : (octets : List ℕ) (list : List Member) → list_of octets ≡ Ok list → IsList list octets
unfolding list_of
list_sound octets list found = trimmed_sound octets (behind is_space octets) list refl found

pub inner_list_sound : (octets : List ℕ) → list_of octets ≡ Err InnerList → BeginsInnerList octets
unfolding list_of
inner_list_sound octets found = trimmed_inner octets (behind is_space octets) refl found

-- ---- and each list is read

-- no white space
abbrev is_solid : ℕ → Bool
is_solid b = not (b == 32 || b == 9)

member_is_solid : (text : List ℕ) → Begins is_member_start text → Begins is_solid text
member_is_solid [] begins = absurd begins
member_is_solid (b ∷ text) begins = grind (arith, nat_tests)

solid_is_no_blank : (b : ℕ) → is_solid b ≡ true → is_blank b ≡ false
solid_is_no_blank b solid = grind (arith, nat_tests)

solid_is_no_space : (b : ℕ) → is_solid b ≡ true → is_space b ≡ false
solid_is_no_space b solid = grind (arith, nat_tests)

commas_are_solid : (members : List Member) (front tail : List ℕ) → HaveCommas members front → Begins is_solid tail → Begins is_solid (front ++ tail)
commas_are_solid [] front tail have solid = subst (λ (l : List ℕ). Begins is_solid (l ++ tail)) (sym have) solid
commas_are_solid (m ∷ members) front tail have solid =
    let whole : front ++ tail ≡ have.0 ++ ((have.1 ++ have.2) ++ tail) = ap (λ (l : List ℕ). l ++ tail) have.3 ∙ append_assoc have.0 (have.1 ++ have.2) tail in
    subst (λ (l : List ℕ). Begins is_solid l) (sym whole) (member_is_solid _ (member_begins m have.0 ((have.1 ++ have.2) ++ tail) have.4))

-- white space and a comma end a member
blanks_end : (blanks rest : List ℕ) → AllPass is_blank blanks → Ends is_member_end rest → Ends is_member_end (blanks ++ rest)
blanks_end [] rest are ends = ends
blanks_end (b ∷ blanks) rest are ends =
    let blank = All-head (λ c. is_blank c ≡ true) b blanks are in
    grind (arith, nat_tests)

-- the reader goes on behind a member and its comma
comma_read : (n : ℕ) (before : List Member) (m : Member) (one comma rest : List ℕ) → IsMember m one → IsComma comma → Begins is_solid rest
    → members_from (suc n) before (one ++ (comma ++ rest)) ≡ members_from n (before ++ m ∷ []) rest
unfolding members_from
comma_read n before m one comma rest is commas solid =
    let more = comma ++ rest in
    let shown : more ≡ commas.before ++ (44 ∷ (commas.behind ++ rest)) = ap (λ (l : List ℕ). l ++ rest) commas.spelled ∙ append_assoc commas.before (44 ∷ commas.behind) rest in
    let ends : Ends is_member_end more = subst (λ (l : List ℕ). Ends is_member_end l) (sym shown) (blanks_end commas.before (44 ∷ (commas.behind ++ rest)) commas.blank_before refl) in
    let item = member_is_read m one more is ends in
    let member = member_at_item (one ++ more) (m, more) (member_begins m one more is) item in
    let at-comma = ap (behind is_blank) shown ∙ behind_run is_blank commas.before (44 ∷ (commas.behind ++ rest)) commas.blank_before refl in
    let behind-comma = behind_run is_blank commas.behind rest commas.blank_behind (stops_at_start is_blank is_solid solid_is_no_blank rest solid) in
    let next : List ℕ → Result (List Member) SfFault = members_from n (before ++ m ∷ []) in
    ap (result_and_then (λ (r : Member × List ℕ). after_member (before ++ r.0 ∷ []) (members_from n (before ++ r.0 ∷ [])) (behind is_blank r.1))) member
    ∙ (ap (after_member (before ++ m ∷ []) next) at-comma ∙ ap next behind-comma)

-- the reader goes on behind members with a comma behind each
commas_read : (n : ℕ) (before members : List Member) (front tail : List ℕ) → HaveCommas members front → Begins is_solid tail → length (front ++ tail) ≤ n
    → (k : ℕ) × (length tail ≤ k) × (members_from n before (front ++ tail) ≡ members_from k (before ++ members) tail)
commas_read n before [] front tail have solid room = (
  n,
  omega (arith, room, ap length have, length-append front tail),
  ap (λ (l : List ℕ). members_from n before (l ++ tail)) have ∙ ap (λ (l : List Member). members_from n l tail) (sym (append-nil before)),
)
commas_read zero before (m ∷ members) front tail have solid room =
    absurd (omega (arith, room, ap length have.3, length-append front tail, length-append have.0 (have.1 ++ have.2), length-append have.1 have.2, ap length have.5.spelled, length-append have.5.before (44 ∷ have.5.behind)))
commas_read (suc n) before (m ∷ members) front tail have solid room =
    let one = have.0 in
    let comma = have.1 in
    let more = have.2 in
    let whole : front ++ tail ≡ one ++ (comma ++ (more ++ tail)) =
    ap (λ (l : List ℕ). l ++ tail) have.3
    ∙ (append_assoc one (comma ++ more) tail ∙ ap (λ (l : List ℕ). one ++ l) (append_assoc comma more tail)) in
    let first = comma_read n before m one comma (more ++ tail) have.4 have.5 (commas_are_solid members more tail have.6 solid) in
    let shorter : length (more ++ tail) ≤ n =
    omega (arith, room, ap length whole, length-append one (comma ++ (more ++ tail)), length-append comma (more ++ tail), ap length have.5.spelled, length-append have.5.before (44 ∷ have.5.behind)) in
    let later = commas_read n (before ++ m ∷ []) members more tail have.6 solid shorter in (
      later.0,
      later.1,
      ap (members_from (suc n) before) whole
          ∙ (first ∙ (later.2 ∙ ap (λ (l : List Member). members_from later.0 l tail) (append_assoc before (m ∷ []) members))),
    )

blanks_at_end : (blanks : List ℕ) → AllPass is_blank blanks → Ends is_member_end blanks
blanks_at_end blanks are = subst (λ (l : List ℕ). Ends is_member_end l) (append-nil blanks) (blanks_end blanks [] are tt)

-- the last member, and white space behind it
last_read : (k : ℕ) (before : List Member) (m : Member) (text blanks : List ℕ) → IsMember m text → AllPass is_blank blanks
    → members_from (suc k) before (text ++ blanks) ≡ Ok (before ++ m ∷ [])
unfolding members_from
last_read k before m text blanks is are =
    let item = member_is_read m text blanks is (blanks_at_end blanks are) in
    let member = member_at_item (text ++ blanks) (m, blanks) (member_begins m text blanks is) item in
    let none = ap (behind is_blank) (sym (append-nil blanks)) ∙ behind_run is_blank blanks [] are tt in
    ap (result_and_then (λ (r : Member × List ℕ). after_member (before ++ r.0 ∷ []) (members_from k (before ++ r.0 ∷ [])) (behind is_blank r.1))) member
    ∙ ap (after_member (before ++ m ∷ []) (members_from k (before ++ m ∷ []))) none

inner_read : (k : ℕ) (before : List Member) (more : List ℕ) → members_from (suc k) before (40 ∷ more) ≡ Err InnerList
unfolding members_from
inner_read k before more = refl

-- behind the spaces in front
spaces_skipped : (spaces text : List ℕ) → AllPass is_space spaces → Begins is_solid text → list_of (spaces ++ text) ≡ members_at text
unfolding list_of
spaces_skipped spaces [] are solid = absurd solid
spaces_skipped spaces (b ∷ text) are solid =
    ap trimmed_list_of (behind_run is_space spaces (b ∷ text) are (stops_at_start is_space is_solid solid_is_no_space (b ∷ text) solid))

spaces_alone : (octets : List ℕ) → AllPass is_space octets → list_of octets ≡ Ok []
unfolding list_of
spaces_alone octets are = ap trimmed_list_of (ap (behind is_space) (sym (append-nil octets)) ∙ behind_run is_space octets [] are tt)

pub list_is_read : (octets : List ℕ) (list : List Member) → IsList list octets → list_of octets ≡ Ok list
list_is_read octets list (inl none) = spaces_alone octets none.1 ∙ ap (λ (l : List Member). Ok l) (sym none.0)
list_is_read octets list (inr are) =
    let tail = are.last_text ++ are.blanks in
    let solid = member_is_solid tail (member_begins are.last are.last_text are.blanks are.is_last) in
    let text = are.front ++ tail in
    let skipped = spaces_skipped are.spaces text are.are_spaces (commas_are_solid are.members are.front tail are.have_commas solid) in
    let walked = commas_read (length text) [] are.members are.front tail are.have_commas solid (omega arith) in
    let ending = last_one walked.0 are.members are.last are.last_text are.blanks are.is_last are.are_blanks walked.1 in
    ap list_of are.spelled ∙ (skipped ∙ (walked.2 ∙ (ending ∙ ap (λ (l : List Member). Ok l) (sym are.list_is))))
  where
    last_one : (k : ℕ) (before : List Member) (m : Member) (text blanks : List ℕ) → IsMember m text → AllPass is_blank blanks → length (text ++ blanks) ≤ k
        → members_from k before (text ++ blanks) ≡ Ok (before ++ m ∷ [])
    last_one zero before m text blanks is are room = absurd (begins_none (text ++ blanks) (member_begins m text blanks is) (omega (arith, room)))
      where
        begins_none : (l : List ℕ) → Begins is_member_start l → length l ≤ 0 → ⊥
        begins_none [] begins short = begins
        begins_none (b ∷ l) begins short = omega arith
    last_one (suc k) before m text blanks is are room = last_read k before m text blanks is are

pub inner_list_is_read : (octets : List ℕ) → BeginsInnerList octets → list_of octets ≡ Err InnerList
inner_list_is_read octets begins =
    let tail = 40 ∷ begins.more in
    let text = begins.front ++ tail in
    let skipped = spaces_skipped begins.spaces text begins.are_spaces (commas_are_solid begins.members begins.front tail begins.have_commas refl) in
    let walked = commas_read (length text) [] begins.members begins.front tail begins.have_commas refl (omega arith) in
    ap list_of begins.spelled ∙ (skipped ∙ (walked.2 ∙ at_inner walked.0 begins.members begins.more walked.1))
  where
    at_inner : (k : ℕ) (before : List Member) (more : List ℕ) → length (40 ∷ more) ≤ k → members_from k before (40 ∷ more) ≡ Err InnerList
    at_inner zero before more room = absurd (omega (arith, room))
    at_inner (suc k) before more room = inner_read k before more

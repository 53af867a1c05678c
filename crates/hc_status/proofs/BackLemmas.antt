-- What the cache writes is read as its own mark.
use Rattle.std.proofs.Common.{◌≡◌, ℕ, suc, ◌<◌, ◌≤◌, ◌^◌, ℤ, pos, negsuc, unsigned_abs, Bool, true, false, List, [], ◌∷◌, ◌++◌, flat_map, Option, Some, None, Ok, inl, inr, refl, sym, ap, subst, ◌∙◌, arith, append_assoc, decimal, lit<, lit≤, neg_ℤ}
use Rattle.std.specs.Prelude.{codes}
use Rattle.std.specs.List.{list_all, join_by}
use Rattle.std.specs.Char.{is_ascii_digit}
use Rattle.std.specs.Fmt.{signed_decimal}
use Rattle.std.specs.Str.{bytes_eq}
use Rattle.std.specs.Str.Parse.{digits_value}
use Rattle.std.proofs.lemmas.Bool.{cond-true, cond-false}
use Rattle.std.proofs.lemmas.Bool.Decides.{nat_tests}
use Rattle.std.proofs.lemmas.Fmt.{decimal_is_IsNumeral, length-decimal-le, decimal_nonempty}
use Rattle.std.proofs.lemmas.List.{append-nil}
use Rattle.std.proofs.lemmas.List.Concat.{flat_map-append}
use Rattle.std.proofs.lemmas.List.Elements.{All-from_get_or}
use Rattle.std.proofs.lemmas.List.Sums.{AllPass-from_list_all}
use Rattle.std.proofs.lemmas.Slice.Eq.{bytes_eq-Decides}
use Rattle.std.proofs.lemmas.Str.Parse.{digit_at}
use Rattle.hc_fields.specs.declared.fields.Field.{Field}
use Rattle.hc_fields.specs.Values.{values_of, joined_values}
use Rattle.hc_status.specs.declared.cache_status.CacheStatus.{CacheStatus}
use Rattle.hc_status.specs.declared.cache_status.Handling.{Handling}
use Rattle.hc_status.specs.declared.cache_status.Handling.TheVariants as handling
use Rattle.hc_status.specs.declared.items.Bare.{Bare}
use Rattle.hc_status.specs.declared.items.Bare.TheVariants.{Integer, Token}
use Rattle.hc_status.specs.declared.items.Parameter.{Parameter}
use Rattle.hc_status.specs.declared.items.Member.{Member}
use Rattle.hc_status.specs.Classes.{is_space, is_blank, is_key_start, is_key_octet}
use Rattle.hc_status.specs.Grammar.{IsDigits, IsInteger, IsBare, IsKey, IsParameter, AreParameters, IsMember, IsComma, HaveCommas, AreMembers, IsList, with_parameter, parameters_of}
use Rattle.hc_status.specs.Marks.{list_of_text, cache_status, mark_of_list, mark_of_last, mark_of_member, mark_of}
use Rattle.hc_status.specs.Reading.{list_of}
use Rattle.hc_status.specs.Texts.{flag, ttl_params, status_params, stored_params, collapsed_params, handling_params, written_member, ttl_text, fwd_status_text, stored_text, collapsed_text, handling_text, member_text, HasShortTtl, HasShortStatus, IsPlainHandling, IsPlain, written_mark}
use Rattle.hc_status.proofs.RunLemmas.{pass_none, pass_more, true_or_false}
use Rattle.hc_status.proofs.ListLemmas.{list_is_read, list_sound}
use Rattle.hc_status.proofs.MarkLemmas.{last_pushed}

-- ---- numbers

room : 10 ^ 15 ≤ 2 ^ 64
room = lit≤ tt

decimal_digits : (n : ℕ) → n < 10 ^ 15 → IsDigits 15 (decimal n)
decimal_digits n small =
    let fits : n < 2 ^ 64 = omega (arith, room) in
    let digits = (decimal_is_IsNumeral n fits).0.1 in
    record {
      some = decimal_nonempty n fits;
      few = length-decimal-le 15 n (lit< tt) small fits;
      are_digits = All-from_get_or (λ b. is_ascii_digit b ≡ true) (decimal n) 0 λ i lt.
          let at = digit_at (decimal n) i digits lt in
          grind (arith, nat_tests);
    }

decimal_value : (n : ℕ) → n < 10 ^ 15 → digits_value 10 (decimal n) ≡ n
decimal_value n small = (decimal_is_IsNumeral n (omega (arith, room))).1

natural_is_integer : (n : ℕ) → n < 10 ^ 15 → IsInteger (pos n) (decimal n)
natural_is_integer n small = record {
  negative = false;
  digits = decimal n;
  is_digits = decimal_digits n small;
  spelled = refl;
  value_is = ap (λ (m : ℕ). pos m) (sym (decimal_value n small));
}

signed_is_integer : (n : ℤ) → unsigned_abs n < 10 ^ 15 → IsInteger n (signed_decimal n)
signed_is_integer (pos n) small = natural_is_integer n small
signed_is_integer (negsuc n) small = record {
  negative = true;
  digits = decimal (suc n);
  is_digits = decimal_digits (suc n) small;
  spelled = refl;
  value_is = ap (λ (m : ℕ). neg_ℤ (pos m)) (sym (decimal_value (suc n) small));
}

-- ---- parameters

-- one parameter, and more behind it
one_parameter : (p : Parameter) (text : List ℕ) → IsParameter p text → AreParameters (p ∷ []) text
one_parameter p text is = (text, [], sym (append-nil text), is, refl)

parameters_join : (params others : List Parameter) (text more : List ℕ) → AreParameters params text → AreParameters others more
    → AreParameters (params ++ others) (text ++ more)
parameters_join [] others text more are are-others = subst (λ (l : List ℕ). AreParameters others (l ++ more)) (sym are) are-others
parameters_join (p ∷ params) others text more are are-others =
    (are.0, are.1 ++ more, ap (λ (l : List ℕ). l ++ more) are.2 ∙ append_assoc are.0 are.1 more, are.3, parameters_join params others are.1 more are.4 are-others)

-- a parameter that stands alone, and one with a value
flag_is : (key : List ℕ) → IsKey key → IsParameter (flag key) (59 ∷ key)
unfolding flag
flag_is key is = record {
  spaces = [];
  value_text = [];
  are_spaces = pass_none is_space;
  is_key = is;
  is_value = inl (refl, refl);
  spelled = ap (λ (l : List ℕ). 59 ∷ l) (sym (append-nil key));
}

valued_is : (key : List ℕ) (value : Bare) (text : List ℕ) → IsKey key → IsBare value text → IsParameter (record { key = key; value = value }) (59 ∷ (key ++ 61 ∷ text))
valued_is key value text is bare = record {
  spaces = [];
  value_text = 61 ∷ text;
  are_spaces = pass_none is_space;
  is_key = is;
  is_value = inr (text, refl, bare);
  spelled = refl;
}

key_of_octets : (b : ℕ) (text : List ℕ) → is_key_start b ≡ true → list_all is_key_octet text ≡ true → IsKey (b ∷ text)
key_of_octets b text start all = (start, AllPass-from_list_all is_key_octet text all)

-- ---- the member that is written

ttl_are : (ttl : Option ℤ) → HasShortTtl ttl → AreParameters (ttl_params ttl) (ttl_text ttl)
unfolding ttl_params
ttl_are None short = refl
ttl_are (Some ttl) short =
    one_parameter _ _ (valued_is (codes "ttl") (Integer ttl) (signed_decimal ttl) (key_of_octets 116 (codes "tl") refl refl) (signed_is_integer ttl short))

status_are : (status : Option ℕ) → HasShortStatus status → AreParameters (status_params status) (fwd_status_text status)
unfolding status_params
status_are None short = refl
status_are (Some status) short =
    one_parameter _ _ (valued_is (codes "fwd-status") (Integer (pos status)) (decimal status) (key_of_octets 102 (codes "wd-status") refl refl) (natural_is_integer status short))

stored_are : (stored : Bool) → AreParameters (stored_params stored) (stored_text stored)
unfolding stored_params
stored_are true = one_parameter _ _ (flag_is (codes "stored") (key_of_octets 115 (codes "tored") refl refl))
stored_are false = refl

collapsed_are : (collapsed : Bool) → AreParameters (collapsed_params collapsed) (collapsed_text collapsed)
unfolding collapsed_params
collapsed_are true = one_parameter _ _ (flag_is (codes "collapsed") (key_of_octets 99 (codes "ollapsed") refl refl))
collapsed_are false = refl

handling_are : (h : Handling) → IsPlainHandling h → AreParameters (handling_params h) (handling_text h)
unfolding handling_params
handling_are (handling.Hit ttl) short =
    parameters_join (flag (codes "hit") ∷ []) (ttl_params ttl) (codes ";hit") (ttl_text ttl)
    (one_parameter _ _ (flag_is (codes "hit") (key_of_octets 104 (codes "it") refl refl))) (ttl_are ttl short)
handling_are (handling.Fwd word status stored collapsed) short =
    let first : List Parameter = record { key = codes "fwd"; value = Token word } ∷ [] in
    let forward = one_parameter _ _ (valued_is (codes "fwd") (Token word) word (key_of_octets 102 (codes "wd") refl refl) (refl, short.0)) in
    let told =
    parameters_join first (status_params status) (codes ";fwd=" ++ word) (fwd_status_text status) forward (status_are status short.1) in
    let put =
    parameters_join (first ++ status_params status) (stored_params stored) (codes ";fwd=" ++ word ++ fwd_status_text status) (stored_text stored)
    told (stored_are stored) in
    parameters_join ((first ++ status_params status) ++ stored_params stored) (collapsed_params collapsed)
    (codes ";fwd=" ++ word ++ fwd_status_text status ++ stored_text stored) (collapsed_text collapsed) put (collapsed_are collapsed)

-- no key stands twice
params_apart : (h : Handling) → parameters_of (handling_params h) ≡ handling_params h
unfolding handling_params ttl_params status_params stored_params collapsed_params flag with_parameter
params_apart (handling.Hit None) = refl
params_apart (handling.Hit (Some ttl)) = refl
params_apart (handling.Fwd word None true true) = refl
params_apart (handling.Fwd word None true false) = refl
params_apart (handling.Fwd word None false true) = refl
params_apart (handling.Fwd word None false false) = refl
params_apart (handling.Fwd word (Some status) true true) = refl
params_apart (handling.Fwd word (Some status) true false) = refl
params_apart (handling.Fwd word (Some status) false true) = refl
params_apart (handling.Fwd word (Some status) false false) = refl

member_is : (status : CacheStatus) → IsPlain status → IsMember (written_member status) (member_text status)
unfolding written_member
member_is status plain = record {
  item_text = status.name;
  params_text = handling_text status.handling;
  written = handling_params status.handling;
  is_item = (refl, plain.name);
  are_parameters = handling_are status.handling plain.handling;
  params_are = sym (params_apart status.handling);
  spelled = refl;
}

mark_by_params : (name : List ℕ) (h : Handling) → mark_of_member (record { item = Token name; params = handling_params h }) ≡ written_mark h
unfolding handling_params ttl_params status_params stored_params collapsed_params flag
mark_by_params name (handling.Hit None) = refl
mark_by_params name (handling.Hit (Some ttl)) = refl
mark_by_params name (handling.Fwd word None true true) = refl
mark_by_params name (handling.Fwd word None true false) = refl
mark_by_params name (handling.Fwd word None false true) = refl
mark_by_params name (handling.Fwd word None false false) = refl
mark_by_params name (handling.Fwd word (Some status) true true) = refl
mark_by_params name (handling.Fwd word (Some status) true false) = refl
mark_by_params name (handling.Fwd word (Some status) false true) = refl
mark_by_params name (handling.Fwd word (Some status) false false) = refl

mark_is : (status : CacheStatus) → mark_of_member (written_member status) ≡ written_mark status.handling
unfolding written_member
mark_is status = mark_by_params status.name status.handling

-- ---- alone, and behind others

alone_is_list : (m : Member) (text : List ℕ) → IsMember m text → IsList (m ∷ []) text
alone_is_list m text is = inr (record {
  spaces = [];
  members = [];
  last = m;
  front = [];
  last_text = text;
  blanks = [];
  are_spaces = pass_none is_space;
  have_commas = refl;
  is_last = is;
  are_blanks = pass_none is_blank;
  spelled = sym (append-nil text);
  list_is = refl;
})

commas_join : (members : List Member) (m : Member) (front one comma : List ℕ) → HaveCommas members front → IsMember m one → IsComma comma
    → HaveCommas (members ++ m ∷ []) (front ++ (one ++ comma))
commas_join [] m front one comma have is commas =
    (one, comma, [], ap (λ (l : List ℕ). l ++ (one ++ comma)) have ∙ ap (λ (l : List ℕ). one ++ l) (sym (append-nil comma)), is, commas, refl)
commas_join (n ∷ members) m front one comma have is commas =
    let rest = have.2 in
    let whole : front ++ (one ++ comma) ≡ have.0 ++ (have.1 ++ (rest ++ (one ++ comma))) =
    ap (λ (l : List ℕ). l ++ (one ++ comma)) have.3
    ∙ (append_assoc have.0 (have.1 ++ rest) (one ++ comma) ∙ ap (λ (l : List ℕ). have.0 ++ l) (append_assoc have.1 rest (one ++ comma))) in
    (have.0, have.1, rest ++ (one ++ comma), whole, have.4, have.5, commas_join members m rest one comma have.6 is commas)

-- a comma, a space and one member more
joined_is_list : (list : List Member) (octets : List ℕ) (m : Member) (text : List ℕ) → AreMembers list octets → IsMember m text
    → IsList (list ++ m ∷ []) (octets ++ (44 ∷ 32 ∷ text))
joined_is_list list octets m text are is =
    let comma = are.blanks ++ 44 ∷ 32 ∷ [] in
    let front = are.front ++ (are.last_text ++ comma) in
    let whole : octets ++ (44 ∷ 32 ∷ text) ≡ are.spaces ++ (front ++ (text ++ [])) =
    ap (λ (l : List ℕ). l ++ (44 ∷ 32 ∷ text)) are.spelled
    ∙ simp (append_assoc, append-nil) in
    inr (record {
      spaces = are.spaces;
      members = are.members ++ are.last ∷ [];
      last = m;
      front = front;
      last_text = text;
      blanks = [];
      are_spaces = are.are_spaces;
      have_commas = commas_join are.members are.last are.front are.last_text comma are.have_commas are.is_last
          (record { before = are.blanks; behind = 32 ∷ []; blank_before = are.are_blanks; blank_behind = pass_more is_blank 32 [] refl (pass_none is_blank); spelled = refl });
      is_last = is;
      are_blanks = pass_none is_blank;
      spelled = whole;
      list_is = ap (λ (l : List Member). l ++ m ∷ []) are.list_is;
    })

pub written_list_of : (status : CacheStatus) → IsPlain status → list_of (member_text status) ≡ Ok (written_member status ∷ [])
written_list_of status plain = list_is_read (member_text status) (written_member status ∷ []) (alone_is_list (written_member status) (member_text status) (member_is status plain))

-- ---- in fields

mark_of_alone : (m : Member) (text : List ℕ) → IsMember m text → mark_of_list (list_of text) ≡ mark_of_member m
mark_of_alone m text is = ap mark_of_list (list_is_read text (m ∷ []) (alone_is_list m text is))

pub alone_read_back : (fields : List Field) (status : CacheStatus) → IsPlain status → values_of (codes "cache-status") fields ≡ member_text status ∷ []
    → mark_of fields ≡ written_mark status.handling
alone_read_back fields status plain lines =
    let text = member_text status in
    ap (λ (vs : List (List ℕ)). mark_of_list (list_of_text (joined_values vs))) lines
    ∙ (ap (λ (l : List ℕ). mark_of_list (list_of l)) (append-nil text)
    ∙ (mark_of_alone (written_member status) text (member_is status plain) ∙ mark_is status))

same_bytes : (name : List ℕ) → bytes_eq name name ≡ true
same_bytes name = (bytes_eq-Decides name name).1 refl

values_pushed : (name : List ℕ) (fields : List Field) (line : Field) → line.name ≡ name → values_of name (fields ++ line ∷ []) ≡ values_of name fields ++ line.value ∷ []
values_pushed name [] line same = cond-true (bytes_eq line.name name) _ _ (ap (λ (n : List ℕ). bytes_eq n name) same ∙ same_bytes name)
values_pushed name (f ∷ fields) line same =
    let later = values_pushed name fields line same in
    elim (true_or_false (bytes_eq f.name name)) [
      | inl has ↦
          cond-true (bytes_eq f.name name) _ _ has
          ∙ (ap (λ (vs : List (List ℕ)). f.value ∷ vs) later ∙ ap (λ (vs : List (List ℕ)). vs ++ line.value ∷ []) (sym (cond-true (bytes_eq f.name name) _ _ has)))
      | inr other ↦
          cond-false (bytes_eq f.name name) _ _ other
          ∙ (later ∙ ap (λ (vs : List (List ℕ)). vs ++ line.value ∷ []) (sym (cond-false (bytes_eq f.name name) _ _ other)))
    ]

-- the joined values with one more
joined_pushed : (first : List ℕ) (values : List (List ℕ)) (last : List ℕ)
    → joined_values ((first ∷ values) ++ last ∷ []) ≡ Some (join_by (λ v. v) (codes ", ") (first ∷ values) ++ (44 ∷ 32 ∷ last))
joined_pushed first values last =
    let f : List ℕ → List ℕ = λ v. codes ", " ++ v in
    ap (λ (l : List ℕ). Some (first ++ l)) (flat_map-append f values (last ∷ []) ∙ ap (λ (l : List ℕ). flat_map f values ++ (44 ∷ 32 ∷ l)) (append-nil last))
    ∙ ap (λ (l : List ℕ). Some l) (sym (append_assoc first (flat_map f values) (44 ∷ 32 ∷ last)))

-- a list of one member or more
some_members : (list : List Member) (first : Member) (more : List Member) (octets : List ℕ) → list ≡ first ∷ more → IsList list octets → AreMembers list octets
some_members list first more octets same (inl none) = absurd (let e = none.0 in cc)
some_members list first more octets same (inr are) = are

list_pushed : (values : List (List ℕ)) (text : List ℕ) (first : Member) (more : List Member) (m : Member) → list_of_text (joined_values values) ≡ Ok (first ∷ more)
    → IsMember m text → list_of_text (joined_values (values ++ text ∷ [])) ≡ Ok ((first ∷ more) ++ m ∷ [])
list_pushed [] text first more m read is = absurd (cc)
list_pushed (value ∷ values) text first more m read is =
    let octets = join_by (λ v. v) (codes ", ") (value ∷ values) in
    let are = some_members (first ∷ more) first more octets refl (list_sound octets (first ∷ more) read) in
    ap list_of_text (joined_pushed value values text)
    ∙ list_is_read (octets ++ (44 ∷ 32 ∷ text)) ((first ∷ more) ++ m ∷ []) (joined_is_list (first ∷ more) octets m text are is)

pub last_read_back : (fields : List Field) (line : Field) (first : Member) (more : List Member) (status : CacheStatus) → IsPlain status
    → cache_status fields ≡ Ok (first ∷ more) → line.name ≡ codes "cache-status" → line.value ≡ member_text status
    → mark_of (fields ++ line ∷ []) ≡ written_mark status.handling
last_read_back fields line first more status plain read name value =
    let m = written_member status in
    let is = subst (λ (l : List ℕ). IsMember m l) (sym value) (member_is status plain) in
    ap (λ (vs : List (List ℕ)). mark_of_list (list_of_text (joined_values vs))) (values_pushed (codes "cache-status") fields line name)
    ∙ (ap mark_of_list (list_pushed (values_of (codes "cache-status") fields) line.value first more m read is)
    ∙ (ap mark_of_last (last_pushed (first ∷ more) m) ∙ mark_is status))

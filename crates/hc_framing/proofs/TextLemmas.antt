-- A written message is read as it was written.
use Rattle.std.proofs.Common.{◌≡◌, ℕ, ◌≤◌, ◌<◌, ◌^◌, Bool, true, false, cond, ◌&&◌, ◌||◌, not, List, [], ◌∷◌, ◌++◌, length, reverse, drop, flat_map, Option, Some, None, Ok, rules, refl, sym, ap, subst, ◌∙◌, arith, append_assoc, append-nil, length-append}
use Rattle.std.specs.Prelude.{codes, decimal, nat_le, nat_lt, ◌==◌}
use Rattle.std.specs.List.{list_all, AllPass}
use Rattle.std.specs.Char.{is_ascii_digit}
use Rattle.std.specs.Str.{bytes_eq}
use Rattle.std.specs.Str.Parse.{digits_value}
use Rattle.std.proofs.Math.Seq.{drop-append_seam, take-append_seam}
use Rattle.std.proofs.lemmas.Bool.{and_from, or_parts, or_from, lt-ltb}
use Rattle.std.proofs.lemmas.Bool.Decides.{nat_tests}
use Rattle.std.proofs.lemmas.Fmt.{decimal_nonempty, length-decimal-le, digits_decimal, digits_value-decimal}
use Rattle.std.proofs.lemmas.List.{reverse-reverse}
use Rattle.std.proofs.lemmas.List.Elements.{All-head, All-weaker}
use Rattle.std.proofs.lemmas.List.Folds.{list_any-append}
use Rattle.std.proofs.lemmas.List.Splits.{slice_split_none}
use Rattle.std.proofs.lemmas.List.Sums.{AllPass-from_list_all}
use Rattle.std.proofs.lemmas.Str.Parse.{IsNumeralModel, numerals_by_value}
use Rattle.httparse.proofs.TrimLemmas.{AllPass-reverse}
use Rattle.hc_fields.specs.declared.fields.Field.{Field}
use Rattle.hc_fields.specs.Values.{values_of, has_name, without}
use Rattle.hc_fields.specs.Numbers.{is_number}
use Rattle.hc_head.specs.declared.head.RequestHead.{RequestHead}
use Rattle.hc_head.specs.declared.head.ResponseHead.{ResponseHead}
use Rattle.hc_head.specs.declared.head.Room.{Room}
use Rattle.hc_head.specs.declared.head.Version.{Version}
use Rattle.hc_head.specs.Methods.{is_unsafe}
use Rattle.hc_head.specs.Reading.{IsWholeHead}
use Rattle.hc_head.specs.Texts.{length_field, with_length, request_with_length, response_with_length, request_head_text, response_head_text}
use Rattle.hc_head.specs.Writable.{has_framing}
use Rattle.hc_head.proofs.WrittenLemmas as heads
use Rattle.hc_framing.specs.declared.message.Message.{Message}
use Rattle.hc_framing.specs.declared.kind.Kind.{Kind}
use Rattle.hc_framing.specs.declared.kind.Kind.TheVariants.{Request, Response}
use Rattle.hc_framing.specs.declared.framing.Framing.{Framing}
use Rattle.hc_framing.specs.declared.framing.Framing.TheVariants.{Nothing, Sized, UntilClose}
use Rattle.hc_head.specs.Writable.{longest_body}
use Rattle.hc_fields.specs.Lists.{is_blank, without_leading_blanks, without_trailing_blanks, trimmed}
use Rattle.hc_framing.specs.Framing.{is_comma, members_of, member_length, common_length, sized_by, sized, framing_by, ends_with_head, response_framing}
use Rattle.hc_framing.specs.Forms.{Form}
use Rattle.hc_framing.specs.Messages.{BeginsBody, fields_without_framing, request_without_framing, response_without_framing, request_form, response_form, BeginsRequest, BeginsResponse}
use Rattle.hc_framing.specs.Reader.{BeginsIn}
use Rattle.hc_framing.specs.Texts.{told, request_length_told, request_text, response_text}
use Rattle.hc_framing.specs.Written.{IsReadableRequest, IsReadableResponse, BeginsRequestIn, BeginsResponseIn}
use Rattle.hc_framing.specs.FramingLaws.{request_laws, response_laws}
use Rattle.hc_framing.proofs.ReaderLemmas.{message_unique}

-- ---- a length that is written in digits

own : IsNumeralModel (λ ds. list_all is_ascii_digit ds ≡ true) (digits_value 10)
own = numerals_by_value _ (search rules)

no_comma : (b : ℕ) → is_ascii_digit b ≡ true → is_comma b ≡ false
no_comma b digit = grind (arith, nat_tests)

no_blank : (b : ℕ) → is_ascii_digit b ≡ true → is_blank b ≡ false
no_blank b digit = grind (arith, nat_tests)

no_leading_blank : (text : List ℕ) → AllPass is_ascii_digit text → without_leading_blanks text ≡ text
no_leading_blank [] all = refl
no_leading_blank (c ∷ cs) all = rw (no_blank c (All-head (λ b. is_ascii_digit b ≡ true) c cs all)) refl

trimmed_digits : (text : List ℕ) → AllPass is_ascii_digit text → trimmed text ≡ text
trimmed_digits text all =
    ap without_trailing_blanks (no_leading_blank text all) ∙ ap reverse (no_leading_blank (reverse text) (AllPass-reverse is_ascii_digit text all)) ∙ reverse-reverse text

digits_pass : (n : ℕ) → n < 2 ^ 64 → AllPass is_ascii_digit (decimal n)
digits_pass n small = AllPass-from_list_all is_ascii_digit (decimal n) (digits_decimal own n small)

one_member : (n : ℕ) → n < 2 ^ 64 → members_of (decimal n) ≡ decimal n ∷ []
one_member n small =
    slice_split_none is_comma (decimal n) (All-weaker (λ b. is_ascii_digit b ≡ true) (λ b. is_comma b ≡ false) no_comma (decimal n) (digits_pass n small))

written_length : (n : ℕ) → n ≤ longest_body → member_length (decimal n) ≡ Some n
written_length n short =
    let small : n < 2 ^ 64 = omega (arith, short) in
    let few = length-decimal-le 8 n (omega arith) (omega (arith, short)) small in
    let fits : nat_le (length (decimal n)) 18 ≡ true = grind (arith, nat_tests) in
    let number : is_number (decimal n) ≡ true = and_from _ _ (lt-ltb _ _ (decimal_nonempty n small)) (digits_decimal own n small) in
    ap (λ (ds : List ℕ). cond (is_number ds && nat_le (length ds) 18) (Some (digits_value 10 ds)) None) (trimmed_digits (decimal n) (digits_pass n small))
    ∙ ap (λ (test : Bool). cond test (Some (digits_value 10 (decimal n))) None) (and_from _ _ number fits) ∙ ap (λ (m : ℕ). Some m) (digits_value-decimal own n small)

one_length : (member : List ℕ) (n : ℕ) → n ≤ longest_body → member_length member ≡ Some n → common_length (member ∷ []) ≡ Ok n
one_length member n short is =
    let same : (n == n) ≡ true = grind (arith, nat_tests) in
    let fits : nat_lt longest_body n ≡ false = grind (arith, nat_tests) in
    rw is (rw same (rw fits refl))

-- ---- fields without framing, and a length behind them

values_behind : (name : List ℕ) (fields more : List Field) → has_name name fields ≡ false → values_of name (fields ++ more) ≡ values_of name more
values_behind name [] more none = refl
values_behind name (f ∷ fields) more none =
    let parts = or_parts (bytes_eq f.name name) (has_name name fields) none in
    rw parts.0 (values_behind name fields more parts.1)

without_behind : (name : List ℕ) (fields more : List Field) → has_name name fields ≡ false → without name (fields ++ more) ≡ fields ++ without name more
without_behind name [] more none = refl
without_behind name (f ∷ fields) more none =
    let parts = or_parts (bytes_eq f.name name) (has_name name fields) none in
    rw parts.0 (ap (λ (fs : List Field). f ∷ fs) (without_behind name fields more parts.1))

without_none : (name : List ℕ) (fields : List Field) → has_name name fields ≡ false → without name fields ≡ fields
without_none name [] none = refl
without_none name (f ∷ fields) none =
    let parts = or_parts (bytes_eq f.name name) (has_name name fields) none in
    rw parts.0 (ap (λ (fs : List Field). f ∷ fs) (without_none name fields parts.1))

-- the length is left out with the fields that frame the body
length_left_out : (fields : List Field) (size : Option ℕ) → has_framing fields ≡ false → fields_without_framing (with_length fields size) ≡ fields
length_left_out fields None none =
    let parts = or_parts (has_name (codes "content-length") fields) (has_name (codes "transfer-encoding") fields) none in
    ap (without (codes "transfer-encoding")) (without_none (codes "content-length") fields parts.0) ∙ without_none (codes "transfer-encoding") fields parts.1
length_left_out fields (Some n) none =
    let parts = or_parts (has_name (codes "content-length") fields) (has_name (codes "transfer-encoding") fields) none in
    ap (without (codes "transfer-encoding")) (without_behind (codes "content-length") fields (length_field n ∷ []) parts.0 ∙ append-nil fields)
    ∙ without_none (codes "transfer-encoding") fields parts.1

uncoded : (default : Framing) (version : Version) (fields : List Field) → has_name (codes "transfer-encoding") fields ≡ false
    → framing_by default version fields ≡ sized default fields
uncoded default version fields none = rw none refl

no_coding : (fields : List Field) (n : ℕ) → has_name (codes "transfer-encoding") fields ≡ false
    → has_name (codes "transfer-encoding") (with_length fields (Some n)) ≡ false
no_coding fields n none =
    list_any-append (λ (f : Field). bytes_eq f.name (codes "transfer-encoding")) fields (length_field n ∷ []) ∙ or_from _ _ none refl

sized_there : (default : Framing) (fields : List Field) (n : ℕ) → n ≤ longest_body → has_name (codes "content-length") fields ≡ false
    → sized default (with_length fields (Some n)) ≡ Ok (Sized n)
sized_there default fields n short none =
    let members : flat_map members_of (decimal n ∷ []) ≡ decimal n ∷ [] = ap (λ (ms : List (List ℕ)). ms ++ []) (one_member n (omega (arith, short))) in
    let length_is : common_length (flat_map members_of (decimal n ∷ [])) ≡ Ok n =
    ap common_length members ∙ one_length (decimal n) n short (written_length n short) in
    ap (sized_by default) (values_behind (codes "content-length") fields (length_field n ∷ []) none) ∙ rw length_is refl

framed_by_length : (default : Framing) (version : Version) (fields : List Field) (n : ℕ) → n ≤ longest_body → has_framing fields ≡ false
    → framing_by default version (with_length fields (Some n)) ≡ Ok (Sized n)
framed_by_length default version fields n short none =
    let parts = or_parts (has_name (codes "content-length") fields) (has_name (codes "transfer-encoding") fields) none in
    uncoded default version (with_length fields (Some n)) (no_coding fields n parts.1) ∙ sized_there default fields n short parts.0

framed_by_none : (default : Framing) (version : Version) (fields : List Field) → has_framing fields ≡ false → framing_by default version fields ≡ Ok default
framed_by_none default version fields none =
    let parts = or_parts (has_name (codes "content-length") fields) (has_name (codes "transfer-encoding") fields) none in
    let values : values_of (codes "content-length") fields ≡ [] =
    ap (values_of (codes "content-length")) (sym (append-nil fields)) ∙ values_behind (codes "content-length") fields [] parts.0 in
    uncoded default version fields parts.1 ∙ ap (sized_by default) values

-- ---- bodies behind their heads

sized_body : (body more : List ℕ) → BeginsBody (Sized (length body)) (body ++ more) body (length body)
sized_body body more = record { enough = omega (arith, length-append body more); body_is = sym (take-append_seam body more); len_is = refl }

no_body : (body more : List ℕ) → body ≡ [] → BeginsBody Nothing (body ++ more) body (length body)
no_body body more none = (none, ap length none)

module _ {H : Type 0} (form : Form H) where
  -- a head that is read as it was written, and a body that is framed as the head says, are a message
  written : (kind : Kind) (room : Room) (text : List ℕ) (head : H) (frame : Framing) (message : Message H) (more : List ℕ)
      → IsWholeHead form.begins form.field_count (text ++ (message.body ++ more)) room head (length text) → form.framing_of kind head ≡ Ok frame
      → BeginsBody frame (message.body ++ more) message.body (length message.body) → message.head ≡ form.without_framing head
      → BeginsIn form kind ((text ++ message.body) ++ more) room message (length (text ++ message.body))
  written kind room text head frame message more whole framed body head-is =
      let joined : text ++ (message.body ++ more) ≡ (text ++ message.body) ++ more = sym (append_assoc text message.body more) in
      let behind : drop (length text) ((text ++ message.body) ++ more) ≡ message.body ++ more =
      ap (drop (length text)) (sym joined) ∙ drop-append_seam text (message.body ++ more) in
      record {
        begins = record {
          head = head;
          head_len = length text;
          begins = subst (λ (o : List ℕ). form.begins o head (length text)) joined whole.begins;
          frame = frame;
          framed = framed;
          body_len = length message.body;
          body = subst (λ (o : List ℕ). BeginsBody frame o message.body (length message.body)) (sym behind) body;
          head_is = head-is;
          len_is = length-append text message.body;
        };
        octets_fit = whole.octets_fit;
        fields_fit = whole.fields_fit;
      }

-- ---- requests

pub request_begins : (message : Message RequestHead) (room : Room) → IsReadableRequest message room → (more : List ℕ)
    → BeginsRequestIn (request_text message ++ more) room message (length (request_text message))
request_begins message room readable more = go (request_length_told message) refl
  where
    there : (size : Option ℕ) → message.head ≡ request_without_framing (request_with_length message.head size)
    there size = ap (λ (fields : List Field). record message.head { fields = fields }) (sym (length_left_out message.head.fields size readable.head.no_framing))

    empty : (n : ℕ) (body : List ℕ) (other : Bool) → length body ≡ n → (not (n == 0) || other) ≡ false → body ≡ []
    empty n [] other is none = refl
    empty n (b ∷ body) other is none = absurd (grind (arith, nat_tests, or_parts (not (n == 0)) other none))

    go : (test : Bool) → request_length_told message ≡ test
        → BeginsRequestIn ((request_head_text message.head (told test message.body) ++ message.body) ++ more) room message (length (request_head_text message.head (told test message.body) ++ message.body))
    go true e =
        let size = Some (length message.body) in
        written request_form Request room (request_head_text message.head size) (request_with_length message.head size) (Sized (length message.body)) message more
        (heads.request_read_back message.head room readable.head size readable.short (message.body ++ more))
        (framed_by_length Nothing message.head.version message.head.fields (length message.body) readable.short readable.head.no_framing) (sized_body message.body more) (there size)
    go false e =
        written request_form Request room (request_head_text message.head None) (request_with_length message.head None) Nothing message more
        (heads.request_read_back message.head room readable.head None tt (message.body ++ more))
        (framed_by_none Nothing message.head.version message.head.fields readable.head.no_framing)
        (no_body message.body more (empty (length message.body) message.body (is_unsafe message.head.method) refl e)) (there None)

pub request_alone : (message : Message RequestHead) (room : Room) → IsReadableRequest message room → (more : List ℕ) (other : Message RequestHead) (n : ℕ)
    → BeginsRequest (request_text message ++ more) other n → (message ≡ other) × (length (request_text message) ≡ n)
request_alone message room readable more other n begins =
    let octets = request_text message ++ more in
    message_unique request_form request_laws Request octets [] message other (length (request_text message)) n
    (request_begins message room readable more).begins (subst (λ (o : List ℕ). BeginsRequest o other n) (sym (append-nil octets)) begins)

-- ---- responses

framed_response : (to_head : Bool) (status : ℕ) (version : Version) (fields : List Field) (n : ℕ) → n ≤ longest_body → has_framing fields ≡ false
    → ends_with_head to_head status ≡ false → response_framing to_head status version (with_length fields (Some n)) ≡ Ok (Sized n)
framed_response to_head status version fields n short none goes-on =
    ap (λ (test : Bool). cond test (Ok Nothing) (framing_by UntilClose version (with_length fields (Some n)))) goes-on ∙ framed_by_length UntilClose version fields n short none

pub response_begins : (to_head : Bool) (message : Message ResponseHead) (room : Room) → IsReadableResponse to_head message room → (more : List ℕ)
    → BeginsResponseIn to_head (response_text (Response to_head) message ++ more) room message (length (response_text (Response to_head) message))
response_begins to_head message room readable more = go (ends_with_head to_head message.head.status) refl
  where
    there : (size : Option ℕ) → message.head ≡ response_without_framing (response_with_length message.head size)
    there size = ap (λ (fields : List Field). record message.head { fields = fields }) (sym (length_left_out message.head.fields size readable.head.no_framing))

    go : (test : Bool) → ends_with_head to_head message.head.status ≡ test
        → BeginsResponseIn to_head ((response_head_text message.head (told (not test) message.body) ++ message.body) ++ more) room message (length (response_head_text message.head (told (not test) message.body) ++ message.body))
    go true e =
        written response_form (Response to_head) room (response_head_text message.head None) (response_with_length message.head None) Nothing message more
        (heads.response_read_back message.head room readable.head None tt (message.body ++ more))
        (ap (λ (test : Bool). cond test (Ok Nothing) (framing_by UntilClose message.head.version message.head.fields)) e)
        (no_body message.body more (readable.bare e)) (there None)
    go false e =
        let size = Some (length message.body) in
        written response_form (Response to_head) room (response_head_text message.head size) (response_with_length message.head size) (Sized (length message.body)) message more
        (heads.response_read_back message.head room readable.head size readable.short (message.body ++ more))
        (framed_response to_head message.head.status message.head.version message.head.fields (length message.body) readable.short readable.head.no_framing e)
        (sized_body message.body more) (there size)

pub response_alone : (to_head : Bool) (message : Message ResponseHead) (room : Room) → IsReadableResponse to_head message room → (more : List ℕ) (other : Message ResponseHead) (n : ℕ)
    → BeginsResponse to_head (response_text (Response to_head) message ++ more) other n → (message ≡ other) × (length (response_text (Response to_head) message) ≡ n)
response_alone to_head message room readable more other n begins =
    let octets = response_text (Response to_head) message ++ more in
    message_unique response_form response_laws (Response to_head) octets [] message other (length (response_text (Response to_head) message)) n
    (response_begins to_head message room readable more).begins (subst (λ (o : List ℕ). BeginsResponse to_head o other n) (sym (append-nil octets)) begins)

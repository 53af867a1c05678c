-- What the cache sends to the origin frames no body, and is read in a transcript as it was written.
use Rattle.std.proofs.Common.{◌≡◌, ℕ, ◌≤◌, ◌<◌, Bool, true, false, cond, not, List, [], ◌∷◌, ◌++◌, length, Option, Some, None, refl, sym, ap, subst, ◌∙◌, arith, length-append}
use Rattle.std.specs.Prelude.{codes}
use Rattle.std.specs.List.{list_all}
use Rattle.std.specs.Str.{bytes_eq}
use Rattle.std.proofs.lemmas.Bool.{and_from, and_parts, leb-true}
use Rattle.std.proofs.lemmas.Bool.Decides.{nat_tests}
use Rattle.std.proofs.lemmas.List.{append_assoc}
use Rattle.std.proofs.lemmas.List.Elements.{All-weaker}
use Rattle.std.proofs.lemmas.List.Folds.{list_all-append}
use Rattle.std.proofs.lemmas.List.Sums.{AllPass-from_list_all, list_all-from_AllPass}
use Rattle.std.proofs.lemmas.Option.{cond_some, same_Some}
use Rattle.httparse.specs.Grammar.{is_token as is_method, is_token_byte, is_uri_byte}
use Rattle.hc_fields.specs.declared.fields.Field.{Field}
use Rattle.hc_fields.specs.Values.{values_of, only, only_value, without, line}
use Rattle.hc_fields.specs.Tokens.{is_token_octet, is_token}
use Rattle.hc_head.specs.declared.head.RequestHead.{RequestHead}
use Rattle.hc_head.specs.declared.head.Target.{Target}
use Rattle.hc_head.specs.declared.head.TheConstants.Room.{RECORDED}
use Rattle.hc_head.specs.declared.head.Version.{Version}
use Rattle.hc_head.specs.declared.head.Version.TheVariants.{Http10, Http11}
use Rattle.hc_rules.specs.Passing.{AreOwnLines, IsReceivedRequest}
use Rattle.hc_head.specs.Plain.{is_plain_field, is_plain_value}
use Rattle.hc_head.specs.Targets.{HasTarget}
use Rattle.hc_head.specs.Weights.{fields_weight}
use Rattle.hc_head.specs.Writable.{has_framing, IsWritableRequest}
use Rattle.hc_head.proofs.PlainLemmas.{visible_plain, spaced_plain, host_plain, via_plain, connection_plain, if_none_match_plain, if_modified_since_plain}
use Rattle.hc_rules.proofs.PassingLemmas.{no_framing_fewer, no_framing_both, received_fewer, passed_request}
use Rattle.hc_head.proofs.WeightLemmas.{weight_first, weight_both}
use Rattle.hc_head.proofs.ForwardLemmas.{host_value, path_plain, path_short}
use Rattle.hc_rules.specs.Validators.{is_entity_tag, has_permitted_length, passing, tag_of, last_modified_of}
use Rattle.hc_rules.specs.Forwards.{goes_forward, passed_on, without_conditions, host_line, version_number, via_value, close_line, via_and_close, condition_by, condition_lines, front_lines, plain_request, unconditional_request, conditional_request}
use Rattle.hc_rules.specs.Laws.{IsCacheName, IsForwardable}

-- ---- framing

no_framing_asked : (fields : List Field) → has_framing fields ≡ false → has_framing (without_conditions fields) ≡ false
no_framing_asked fields none =
    no_framing_fewer (λ f. not (bytes_eq f.name (codes "if-modified-since"))) (without (codes "if-none-match") fields)
    (no_framing_fewer (λ f. not (bytes_eq f.name (codes "if-none-match"))) fields none)

no_framing_front : (target : Target) (received : List Field) → has_framing received ≡ false → has_framing (front_lines target received) ≡ false
no_framing_front target received none =
    no_framing_both (host_line target ∷ []) (passed_on received) refl (no_framing_fewer (λ f. goes_forward received f.name) received none)

no_framing_in_condition : (tag modified : Option (List ℕ)) → has_framing (condition_by tag modified) ≡ false
no_framing_in_condition (Some tag) modified = refl
no_framing_in_condition None (Some modified) = refl
no_framing_in_condition None None = refl

pub plain_no_framing : (name : List ℕ) (target : Target) (received : RequestHead) → has_framing received.fields ≡ false
    → has_framing (plain_request name target received).fields ≡ false
plain_no_framing name target received none =
    no_framing_both (front_lines target received.fields) (via_and_close received.version name) (no_framing_front target received.fields none) refl

pub unconditional_no_framing : (name : List ℕ) (target : Target) (received : RequestHead) → has_framing received.fields ≡ false
    → has_framing (unconditional_request name target received).fields ≡ false
unconditional_no_framing name target received none =
    no_framing_both (without_conditions (front_lines target received.fields)) (via_and_close received.version name)
    (no_framing_asked (front_lines target received.fields) (no_framing_front target received.fields none)) refl

pub conditional_no_framing : (name : List ℕ) (target : Target) (received : RequestHead) (stored : List Field) → has_framing received.fields ≡ false
    → has_framing (conditional_request name target received stored).fields ≡ false
conditional_no_framing name target received stored none =
    let front = without_conditions (front_lines target received.fields) in
    no_framing_both (front ++ condition_lines stored) (via_and_close received.version name)
    (no_framing_both front (condition_lines stored) (no_framing_asked (front_lines target received.fields) (no_framing_front target received.fields none))
    (no_framing_in_condition (tag_of stored) (last_modified_of stored))) refl

-- ---- values of the cache's own lines

token_octet_visible : (b : ℕ) → is_token_octet b ≡ true → is_uri_byte b ≡ true
unfolding is_token_octet
token_octet_visible b token = grind (arith, nat_tests)

token_visible : (name : List ℕ) → is_token name ≡ true → list_all is_uri_byte name ≡ true
token_visible name token =
    let octets = (and_parts _ (list_all is_token_octet name) token).1 in
    list_all-from_AllPass is_uri_byte name
    (All-weaker (λ b. is_token_octet b ≡ true) (λ b. is_uri_byte b ≡ true) token_octet_visible name (AllPass-from_list_all is_token_octet name octets))

token_some : (name : List ℕ) → is_token name ≡ true → 0 < length name
token_some [] token = absurd (cc)
token_some (b ∷ name) token = omega arith

version_plain : (version : Version) → is_plain_value (version_number version) ≡ true
version_plain Http10 = refl
version_plain Http11 = refl

version_length : (version : Version) → length (version_number version) ≡ 3
version_length Http10 = refl
version_length Http11 = refl

via_value_plain : (version : Version) (name : List ℕ) → IsCacheName name → is_plain_value (via_value version name) ≡ true
via_value_plain version name is =
    spaced_plain (version_number version) name (omega (arith, version_length version)) (token_some name is.token) (version_plain version)
    (visible_plain name (token_visible name is.token))

via_value_short : (version : Version) (name : List ℕ) → IsCacheName name → length (via_value version name) ≤ 36
via_value_short version name is =
    omega (arith, is.short, length-append (version_number version ++ codes " ") name, length-append (version_number version) (codes " "), version_length version)

-- ---- the cache's own lines

close_plain : is_plain_field close_line ≡ true
close_plain = and_from _ _ connection_plain refl

via_plain_line : (version : Version) (name : List ℕ) → IsCacheName name → is_plain_field (line (codes "via") (via_value version name)) ≡ true
via_plain_line version name is = and_from _ _ via_plain (via_value_plain version name is)

host_line_plain : (head : RequestHead) (target : Target) → HasTarget head target → is_plain_field (host_line target) ≡ true
host_line_plain head target has = and_from _ _ host_plain (host_value head target has).0

own_lines : (head : RequestHead) (target : Target) (version : Version) (name : List ℕ) → HasTarget head target → IsCacheName name
    → AreOwnLines (host_line target ∷ via_and_close version name)
own_lines head target version name has is = record {
  plain = and_from _ _ (host_line_plain head target has) (and_from _ _ (via_plain_line version name is) (and_from _ _ close_plain refl));
  no_framing = refl;
  few = omega arith;
  light = omega (arith, (host_value head target has).2, via_value_short version name is);
}

-- ---- the condition

plain_values : (name : List ℕ) (fields : List Field) → list_all is_plain_field fields ≡ true → list_all is_plain_value (values_of name fields) ≡ true
plain_values name [] all = refl
plain_values name (f ∷ fields) all = go (plain_values name fields parts.1) (bytes_eq f.name name)
  where
    parts : (is_plain_field f ≡ true) × (list_all is_plain_field fields ≡ true)
    parts = and_parts (is_plain_field f) _ all

    go : list_all is_plain_value (values_of name fields) ≡ true → (same : Bool)
        → list_all is_plain_value (cond same (f.value ∷ values_of name fields) (values_of name fields)) ≡ true
    go later true = and_from _ _ (and_parts _ (is_plain_value f.value) parts.0).1 later
    go later false = later

only_plain : (values : List (List ℕ)) (value : List ℕ) → list_all is_plain_value values ≡ true → only values ≡ Some value → is_plain_value value ≡ true
only_plain [] value all e = absurd (cc)
only_plain (v ∷ []) value all e = subst (λ (w : List ℕ). is_plain_value w ≡ true) (same_Some _ _ e) (and_parts (is_plain_value v) _ all).0
only_plain (v ∷ w ∷ values) value all e = absurd (cc)

-- a validator that passes the test is what the test was about
passed_value : (test : List ℕ → Bool) (found : Option (List ℕ)) (value : List ℕ) → passing test found ≡ Some value → (test value ≡ true) × (found ≡ Some value)
passed_value test None value e = absurd (cc)
passed_value test (Some v) value e =
    let chosen = cond_some (test v) v value e in
    (subst (λ (w : List ℕ). test w ≡ true) chosen.1 chosen.0, ap (λ (w : List ℕ). Some w) chosen.1)

-- a line that is light enough to be one of the cache's own condition
record IsConditionLine (lines : List Field) : Type 0 where
  plain : list_all is_plain_field lines ≡ true
  few : length lines ≤ 1
  light : fields_weight lines ≤ 1100

by_tag : (stored : List Field) (tag : List ℕ) → list_all is_plain_field stored ≡ true → tag_of stored ≡ Some tag → IsConditionLine (line (codes "if-none-match") tag ∷ [])
by_tag stored tag all e =
    let found = passed_value is_entity_tag (only_value (codes "etag") stored) tag e in
    let short = leb-true (length tag) 1024 (and_parts (has_permitted_length tag) _ found.0).0 in
    record {
      plain = and_from _ _ (and_from _ _ if_none_match_plain (only_plain (values_of (codes "etag") stored) tag (plain_values (codes "etag") stored all) found.1)) refl;
      few = omega arith;
      light = omega (arith, short);
    }

by_date : (stored : List Field) (date : List ℕ) → list_all is_plain_field stored ≡ true → last_modified_of stored ≡ Some date
    → IsConditionLine (line (codes "if-modified-since") date ∷ [])
by_date stored date all e =
    let found = passed_value has_permitted_length (only_value (codes "last-modified") stored) date e in
    let short = leb-true (length date) 1024 found.0 in
    record {
      plain = and_from _ _ (and_from _ _ if_modified_since_plain (only_plain (values_of (codes "last-modified") stored) date (plain_values (codes "last-modified") stored all) found.1)) refl;
      few = omega arith;
      light = omega (arith, short);
    }

condition_line : (stored : List Field) → list_all is_plain_field stored ≡ true → IsConditionLine (condition_lines stored)
condition_line stored all = go (tag_of stored) (last_modified_of stored) refl refl
  where
    go : (tag modified : Option (List ℕ)) → tag_of stored ≡ tag → last_modified_of stored ≡ modified → IsConditionLine (condition_by tag modified)
    go (Some tag) modified t m = by_tag stored tag all t
    go None (Some date) t m = by_date stored date all m
    go None None t m = record { plain = refl; few = omega arith; light = omega arith }

own_lines_with_condition : (head : RequestHead) (target : Target) (version : Version) (name : List ℕ) (stored : List Field) → HasTarget head target → IsCacheName name
    → list_all is_plain_field stored ≡ true → AreOwnLines (host_line target ∷ condition_lines stored ++ via_and_close version name)
own_lines_with_condition head target version name stored has is all =
    let condition = condition_line stored all in
    let behind = via_and_close version name in
    let own = own_lines head target version name has is in
    let parts = and_parts (is_plain_field (host_line target)) _ own.plain in
    record {
      plain = and_from _ _ parts.0 (list_all-append is_plain_field (condition_lines stored) behind ∙ and_from _ _ condition.plain parts.1);
      no_framing =
          no_framing_both (host_line target ∷ []) (condition_lines stored ++ behind) refl
          (no_framing_both (condition_lines stored) behind (no_framing_in_condition (tag_of stored) (last_modified_of stored)) refl);
      few = omega (arith, condition.few, length-append (host_line target ∷ condition_lines stored) behind);
      light =
          omega (
            arith,
            condition.light,
            weight_both (host_line target ∷ condition_lines stored) behind,
            weight_first (host_line target) (condition_lines stored),
            (host_value head target has).2,
            via_value_short version name is,
          );
    }

-- ---- whole requests

get_token : is_method (codes "GET") ≡ true
unfolding is_token_byte
get_token = refl

-- the request with the lines that go forward, and without one condition
abbrev asked : RequestHead → RequestHead
asked received = record {
  method = received.method;
  target = received.target;
  version = received.version;
  fields = without (codes "if-none-match") (passed_on received.fields);
}

asked_received : (received : RequestHead) → IsReceivedRequest received → IsReceivedRequest (asked received)
asked_received received is =
    received_fewer (λ f. not (bytes_eq f.name (codes "if-none-match"))) (record received { fields = passed_on received.fields })
    (received_fewer (λ f. goes_forward received.fields f.name) received is)

asked_no_framing : (received : RequestHead) → has_framing received.fields ≡ false → has_framing (without_conditions (passed_on received.fields)) ≡ false
asked_no_framing received none = no_framing_asked (passed_on received.fields) (no_framing_fewer (λ f. goes_forward received.fields f.name) received.fields none)

pub plain_writable : (name : List ℕ) (target : Target) (received : RequestHead) → IsCacheName name → IsForwardable received target
    → IsWritableRequest (plain_request name target received) RECORDED
plain_writable name target received is may =
    let has = may.has_target in
    passed_request received received.method target.path Http11 (λ f. goes_forward received.fields f.name) (host_line target ∷ []) (via_and_close received.version name)
    may.received may.received.plain.method (path_plain received target has may.received.plain.target) (omega (arith, path_short received target has))
    (no_framing_fewer (λ f. goes_forward received.fields f.name) received.fields may.no_framing) (own_lines received target received.version name has is)

pub unconditional_writable : (name : List ℕ) (target : Target) (received : RequestHead) → IsCacheName name → IsForwardable received target
    → IsWritableRequest (unconditional_request name target received) RECORDED
unconditional_writable name target received is may =
    let has = may.has_target in
    passed_request (asked received) received.method target.path Http11 (λ f. not (bytes_eq f.name (codes "if-modified-since"))) (host_line target ∷ [])
    (via_and_close received.version name) (asked_received received may.received) may.received.plain.method
    (path_plain received target has may.received.plain.target) (omega (arith, path_short received target has))
    (asked_no_framing received may.no_framing) (own_lines received target received.version name has is)

pub conditional_writable : (name : List ℕ) (target : Target) (received : RequestHead) (stored : List Field) → IsCacheName name → IsForwardable received target
    → list_all is_plain_field stored ≡ true → IsWritableRequest (conditional_request name target received stored) RECORDED
conditional_writable name target received stored is may all =
    let has = may.has_target in
    let condition = condition_lines stored in
    let behind = via_and_close received.version name in
    subst (λ (fields : List Field). IsWritableRequest (record { method = codes "GET"; target = target.path; version = Http11; fields = fields }) RECORDED)
    (sym (append_assoc (without_conditions (front_lines target received.fields)) condition behind))
    (passed_request (asked received) (codes "GET") target.path Http11 (λ f. not (bytes_eq f.name (codes "if-modified-since"))) (host_line target ∷ [])
    (condition ++ behind) (asked_received received may.received) get_token
    (path_plain received target has may.received.plain.target) (omega (arith, path_short received target has))
    (asked_no_framing received may.no_framing) (own_lines_with_condition received target received.version name stored has is all))

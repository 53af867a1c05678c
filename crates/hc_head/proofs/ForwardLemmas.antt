-- A request that is written for a target has that target again.
use Rattle.std.proofs.Common.{◌≡◌, ◌≢◌, ℕ, suc, ◌+◌, ◌<◌, ◌≤◌, Bool, true, false, cond, ◌==◌, not, leb, nat_lt, ◌⊎◌, List, [], ◌∷◌, ◌++◌, length, get_or, take, drop, refl, sym, ap, subst, ◌∙◌, arith, inl, inr, append_assoc, length-append}
use Rattle.std.specs.Prelude.{codes, IsUtf8, IfSome, Some, None}
use Rattle.std.specs.List.{AllPass, list_all, list_any}
use Rattle.std.specs.Char.{to_ascii_lowercase, is_ascii_digit}
use Rattle.std.specs.Str.{bytes_eq, str_to_ascii_lowercase}
use Rattle.std.proofs.lemmas.Bool.{and_parts, and_from, or_parts, eqb-true, leb-true, lt-ltb, false≢true}
use Rattle.std.proofs.lemmas.Bool.Decides.{nat_tests}
use Rattle.std.proofs.lemmas.List.{length-map, length-take-le, map-append, drop_at, get_or_at}
use Rattle.std.proofs.lemmas.List.Elements.{All-nil, All-cons, All-head, All-tail}
use Rattle.std.proofs.lemmas.List.Folds.{list_all-append, list_any-append}
use Rattle.std.proofs.lemmas.List.Sums.{list_all-from_AllPass, prefix_len-le-length}
use Rattle.std.proofs.lemmas.Slice.Eq.{bytes_eq-Decides}
use Rattle.std.proofs.lemmas.Str.{IsUtf8-append, IsUtf8-from_ascii, IsUtf8-drop, IsCharBoundary-before_ascii}
use Rattle.std.proofs.lemmas.Str.Ascii.{IsAscii-nil, IsAscii-cons}
use Rattle.http_uri.specs.ByteClasses.{index_of, is_path_byte, is_query_byte}
use Rattle.http_uri.specs.Grammar.{IsPathInput, IsPathAndQuery, without_fragment}
use Rattle.http_uri.proofs.PathLemmas.{IsPathAndQuery_slash}
use Rattle.httparse.specs.Grammar.{is_token, is_uri_byte}
use Rattle.hc_fields.specs.declared.fields.Field.{Field}
use Rattle.hc_fields.specs.Values.{values_of, has_name}
use Rattle.hc_fields.proofs.UpdateLemmas.{values_absent}
use Rattle.hc_head.specs.declared.head.RequestHead.{RequestHead}
use Rattle.hc_head.specs.declared.head.Target.{Target}
use Rattle.hc_head.specs.declared.head.Version.{Version}
use Rattle.hc_head.specs.Hosts.{is_name_octet, is_address_octet, IsHost, is_port, Authority, HasAuthority, is_default_port, normal_host}
use Rattle.hc_head.specs.Plain.{is_plain_value, is_plain_field, IsPlainTarget, IsPlainRequest}
use Rattle.hc_head.specs.Targets.{is_path_start, IsOriginForm, IsAbsoluteForm, Form, Origin, Absolute, Asterisk, HasForm, MayName, NamesForm, target_authority, absolute_path, target_path, HasTarget, host_field}
use Rattle.hc_head.proofs.PlainLemmas.{visible_plain, host_plain}
use Rattle.hc_head.proofs.TargetLemmas.{scheme_length}
use Rattle.hc_head.proofs.WrittenLemmas.{lower_name, no_capital}

-- ---- hosts in lower case

lower_name_octet : (b : ℕ) → is_name_octet b ≡ true → is_name_octet (to_ascii_lowercase b) ≡ true
lower_name_octet b is = grind (arith, nat_tests)

lower_address_octet : (b : ℕ) → is_address_octet b ≡ true → is_address_octet (to_ascii_lowercase b) ≡ true
lower_address_octet b is = grind (arith, nat_tests)

lower_all : (p : ℕ → Bool) → ((b : ℕ) → p b ≡ true → p (to_ascii_lowercase b) ≡ true) → (text : List ℕ) → AllPass p text → AllPass p (str_to_ascii_lowercase text)
lower_all p stays [] all = all
lower_all p stays (b ∷ text) all =
    All-cons (λ v. p v ≡ true) (to_ascii_lowercase b) (str_to_ascii_lowercase text) (stays b (All-head (λ v. p v ≡ true) b text all))
    (lower_all p stays text (All-tail (λ v. p v ≡ true) b text all))

lower_host : (host : List ℕ) → IsHost host → IsHost (str_to_ascii_lowercase host)
lower_host host is =
    let same = length-map host to_ascii_lowercase in (
      elim is.0 [
        | inl name ↦ inl (omega (arith, same, name.0), lower_all is_name_octet lower_name_octet host name.1)
        | inr a ↦ inr (record {
          inner = str_to_ascii_lowercase a.inner;
          bracketed = ap str_to_ascii_lowercase a.bracketed ∙ ap (λ (l : List ℕ). 91 ∷ l) (map-append to_ascii_lowercase a.inner (93 ∷ []));
          some = omega (arith, length-map a.inner to_ascii_lowercase, a.some);
          octets = lower_all is_address_octet lower_address_octet a.inner a.octets;
        })
      ],
      omega (arith, same, is.1),
    )

-- the host in lower case, and the port where it says something
abbrev normal : Authority → Authority
normal a = record { host = str_to_ascii_lowercase a.host; port = cond (is_default_port a.port) [] a.port }

normal_port : (port : List ℕ) → is_port port ≡ true → is_port (cond (is_default_port port) [] port) ≡ true
normal_port port is = by_test (is_default_port port)
  where
    by_test : (t : Bool) → is_port (cond t [] port) ≡ true
    by_test true = refl
    by_test false = is

normal_port_again : (port : List ℕ) → cond (is_default_port (cond (is_default_port port) [] port)) [] (cond (is_default_port port) [] port) ≡ cond (is_default_port port) [] port
normal_port_again port = by_test (is_default_port port) refl
  where
    by_test : (t : Bool) → is_default_port port ≡ t → cond (is_default_port (cond t [] port)) [] (cond t [] port) ≡ cond t [] port
    by_test true default = refl
    by_test false other = ap (λ (t : Bool). cond t [] port) other

has_normal : (text : List ℕ) (a : Authority) → HasAuthority text a → HasAuthority (normal_host a) (normal a)
has_normal text a has = record { spelled = refl; is_host = lower_host a.host has.is_host; is_port = normal_port a.port has.is_port }

-- what is normal stays as it is
normal_again : (a : Authority) → normal_host a ≡ normal_host (normal a)
normal_again a =
    let host : str_to_ascii_lowercase (str_to_ascii_lowercase a.host) ≡ str_to_ascii_lowercase a.host =
    lower_name (str_to_ascii_lowercase a.host) (no_capital a.host) in
    let port = normal_port_again a.port in
    sym (λ i. host i ++ port i)

-- the authority of a target stands in the head
authority_there : (head : RequestHead) (target : Target) (has : HasTarget head target) → (text : List ℕ) × HasAuthority text (target_authority has.host has.form)
authority_there head target has = by_form has.form has.names.has_form
  where
    by_form : (form : Form) → HasForm head form → (text : List ℕ) × HasAuthority text (target_authority has.host form)
    by_form Origin is = (has.has_host.line, has.has_host.is_authority)
    by_form (Absolute authority rest) is = (is.name, is.is_authority)
    by_form Asterisk is = (has.has_host.line, has.has_host.is_authority)

-- ---- hosts are visible

name_visible : (b : ℕ) → is_name_octet b ≡ true → is_uri_byte b ≡ true
name_visible b is = grind (arith, nat_tests)

address_visible : (b : ℕ) → is_address_octet b ≡ true → is_uri_byte b ≡ true
address_visible b is = grind (arith, nat_tests)

port_octet_visible : (b : ℕ) → is_ascii_digit b ≡ true → is_uri_byte b ≡ true
port_octet_visible b is = grind (arith, nat_tests)

all_weaker : (p q : ℕ → Bool) → ((b : ℕ) → p b ≡ true → q b ≡ true) → (text : List ℕ) → list_all p text ≡ true → list_all q text ≡ true
all_weaker p q weaker [] all = refl
all_weaker p q weaker (b ∷ text) all =
    let parts = and_parts (p b) _ all in
    and_from _ _ (weaker b parts.0) (all_weaker p q weaker text parts.1)

host_visible : (host : List ℕ) → IsHost host → list_all is_uri_byte host ≡ true
host_visible host is =
    elim is.0 [
      | inl name ↦ all_weaker is_name_octet is_uri_byte name_visible host (list_all-from_AllPass is_name_octet host name.1)
      | inr a ↦
          let inner = all_weaker is_address_octet is_uri_byte address_visible a.inner (list_all-from_AllPass is_address_octet a.inner a.octets) in
          let closed : list_all is_uri_byte (a.inner ++ 93 ∷ []) ≡ true = list_all-append is_uri_byte a.inner (93 ∷ []) ∙ and_from _ _ inner refl in
          ap (list_all is_uri_byte) a.bracketed ∙ closed
    ]

host_some : (host : List ℕ) → IsHost host → 0 < length host
host_some host is = elim is.0 [ inl name ↦ name.0 | inr a ↦ omega (arith, ap length a.bracketed) ]

port_visible : (port : List ℕ) → is_port port ≡ true → list_all is_uri_byte port ≡ true
port_visible [] is = refl
port_visible (c ∷ digits) is =
    let colon = and_parts (c == 58) _ is in
    let short = and_parts (leb (length digits) 5) _ colon.1 in
    and_from _ _ (ap is_uri_byte (eqb-true c 58 colon.0)) (all_weaker is_ascii_digit is_uri_byte port_octet_visible digits short.1)

port_short : (port : List ℕ) → is_port port ≡ true → length port ≤ 6
port_short [] is = omega arith
port_short (c ∷ digits) is =
    let colon = and_parts (c == 58) _ is in
    let short = and_parts (leb (length digits) 5) _ colon.1 in
    omega (arith, leb-true (length digits) 5 short.0)

-- what a host with its port is
pub record IsVisibleHost (text : List ℕ) : Type 0 where
  pub visible : list_all is_uri_byte text ≡ true
  pub some : 0 < length text
  pub short : length text ≤ 261

authority_visible : (text : List ℕ) (a : Authority) → HasAuthority text a → IsVisibleHost text
authority_visible text a has =
    let len = ap length has.spelled ∙ length-append a.host a.port in
    record {
      visible = ap (list_all is_uri_byte) has.spelled ∙ list_all-append is_uri_byte a.host a.port ∙ and_from _ _ (host_visible a.host has.is_host) (port_visible a.port has.is_port);
      some = omega (arith, len, host_some a.host has.is_host);
      short = omega (arith, len, has.is_host.1, port_short a.port has.is_port);
    }

-- the host of a target as an authority
target_normal : (head : RequestHead) (target : Target) (has : HasTarget head target) → HasAuthority target.host (normal (target_authority has.host has.form))
target_normal head target has =
    let a = target_authority has.host has.form in
    let there = authority_there head target has in
    subst (λ (t : List ℕ). HasAuthority t (normal a)) (sym has.host_is) (has_normal there.0 a there.1)

target_host : (head : RequestHead) (target : Target) → HasTarget head target → IsVisibleHost target.host
target_host head target has = authority_visible target.host _ (target_normal head target has)

pub host_value : (head : RequestHead) (target : Target) → HasTarget head target
    → (is_plain_value target.host ≡ true) × (0 < length target.host) × (length target.host ≤ 261)
host_value head target has =
    let host = target_host head target has in
    (visible_plain target.host host.visible, host.some, host.short)

-- ---- the path

-- what the path of a target is, by the request that it was read from
record IsPathFrom (head : RequestHead) (path : List ℕ) : Type 0 where
  form : IsOriginForm path ⊎ ((path ≡ codes "*") × (head.method ≡ codes "OPTIONS"))
  short : length path ≤ length head.target
  no_fragment : list_any (λ b. b == 35) path ≡ false
  plain : IsPlainTarget head.target → IsPlainTarget path

octet_text : (b : ℕ) → b < 128 → IsUtf8 (b ∷ [])
octet_text b low = IsUtf8-from_ascii (b ∷ []) (IsAscii-cons b [] low IsAscii-nil)

slash_path : IsOriginForm (47 ∷ [])
slash_path = record { from_root = refl; is_path = record { start = inr refl; short = omega arith; kept = IsPathAndQuery_slash } }

slash_plain : IsPlainTarget (47 ∷ [])
slash_plain = record { some = omega arith; visible = refl; text = octet_text 47 (omega arith) }

star_plain : IsPlainTarget (42 ∷ [])
star_plain = record { some = omega arith; visible = refl; text = octet_text 42 (omega arith) }

some_of : (t : Bool) (x : List ℕ) (P : List ℕ → Type 0) → t ≡ true → IfSome (cond t (Some x) None) P → P x
some_of true x P is holds = holds
some_of false x P is holds = absurd (false≢true is)

of_some : (t : Bool) (x : List ℕ) (P : List ℕ → Type 0) → t ≡ true → P x → IfSome (cond t (Some x) None) P
of_some true x P is holds = holds
of_some false x P is holds = absurd (false≢true is)

-- a query behind an empty path, with the slash that the path gets
query_kept : (q : List ℕ) → length (47 ∷ 63 ∷ q) ≤ 65534 → IsPathAndQuery (63 ∷ q) → IsPathAndQuery (47 ∷ 63 ∷ q)
query_kept q short kept =
    let passes : AllPass is_query_byte q = some_of (nat_lt 0 (length (63 ∷ q))) q (AllPass is_query_byte) (lt-ltb 0 (length (63 ∷ q)) (omega arith)) kept.query in
    record {
      start = inr (inr (inl refl));
      path = All-cons (λ b. is_path_byte b ≡ true) 47 [] refl (All-nil (λ b. is_path_byte b ≡ true));
      query = of_some (nat_lt 1 (length (47 ∷ 63 ∷ q))) q (AllPass is_query_byte) (lt-ltb 1 (length (47 ∷ 63 ∷ q)) (omega arith)) passes;
      utf8 = IsUtf8-append (47 ∷ []) (63 ∷ q) (octet_text 47 (omega arith)) kept.utf8;
      short = short;
    }

query_path : (r : List ℕ) → length (47 ∷ 63 ∷ r) ≤ 65534 → IsPathInput (63 ∷ r) → IsPathInput (47 ∷ 63 ∷ r)
query_path r short input =
    let n = index_of 35 r in
    let within : n ≤ length r = prefix_len-le-length (λ b. not (b == 35)) r in
    let one : 1 + n ≡ suc n = omega arith in
    let two : 1 + (1 + n) ≡ suc (suc n) = omega arith in
    let cut : without_fragment (63 ∷ r) ≡ 63 ∷ take n r = ap (λ (k : ℕ). take k (63 ∷ r)) one in
    let same : without_fragment (47 ∷ 63 ∷ r) ≡ 47 ∷ 63 ∷ take n r = ap (λ (k : ℕ). take k (47 ∷ 63 ∷ r)) two in
    let kept = query_kept (take n r) (omega (arith, short, length-take-le n r within)) (subst IsPathAndQuery cut input.kept) in
    record { start = inr refl; short = short; kept = subst IsPathAndQuery (sym same) kept }

-- what stands behind the front of a target, from an octet of ASCII on
back_plain : (text front r : List ℕ) (b : ℕ) → b < 128 → text ≡ front ++ b ∷ r → IsPlainTarget text → IsPlainTarget (b ∷ r)
back_plain text front r b low spelled plain =
    let n = length front in
    let inside : n < length text = omega (arith, ap length spelled, length-append front (b ∷ r)) in
    let first : get_or text n 0 ≡ b = ap (λ (t : List ℕ). get_or t n 0) spelled ∙ get_or_at front b r 0 n refl in
    let back : drop n text ≡ b ∷ r = ap (drop n) spelled ∙ drop_at front (b ∷ r) n refl in
    let parts = and_parts (list_all is_uri_byte front) _ (sym (list_all-append is_uri_byte front (b ∷ r)) ∙ sym (ap (list_all is_uri_byte) spelled) ∙ plain.visible) in
    record {
      some = omega arith;
      visible = parts.1;
      text = subst IsUtf8 back (IsUtf8-drop text n plain.text (IsCharBoundary-before_ascii text n inside (omega (arith, first, low))));
    }

slashed_plain : (text : List ℕ) → IsPlainTarget text → IsPlainTarget (47 ∷ text)
slashed_plain text plain = record {
  some = omega arith;
  visible = plain.visible;
  text = IsUtf8-append (47 ∷ []) text (octet_text 47 (omega arith)) plain.text;
}

-- the octets before the path of the absolute form
absolute_front : (text : List ℕ) (authority : Authority) (rest : List ℕ) (f : IsAbsoluteForm text authority rest)
    → (text ≡ (f.has_scheme.scheme ++ f.name) ++ rest) × (8 ≤ length (f.has_scheme.scheme ++ f.name))
absolute_front text authority rest f = (
  f.has_scheme.spelled ∙ sym (append_assoc f.has_scheme.scheme f.name rest),
  omega (arith, length-append f.has_scheme.scheme f.name, scheme_length text (f.name ++ rest) f.has_scheme, f.is_name.nonempty),
)

not_nothing : (b : ℕ) (r : List ℕ) → ((b ∷ r) ≡ []) ⊎ IsPathInput (b ∷ r) → IsPathInput (b ∷ r)
not_nothing b r (inl none) = absurd (omega (arith, ap length none))
not_nothing b r (inr is) = is

low_start : (b : ℕ) → is_path_start b ≡ true → b < 128
low_start b start = grind (arith, nat_tests)

slash_start : (b : ℕ) → is_path_start b ≡ true → (b == 63) ≡ false → b ≡ 47
slash_start b start other = grind (arith, nat_tests)

path_of_absolute : (head : RequestHead) (authority : Authority) (rest : List ℕ) → MayName head → IsAbsoluteForm head.target authority rest
    → IsPathFrom head (absolute_path head.method rest)
path_of_absolute head authority [] may f = by_test (bytes_eq head.method (codes "OPTIONS")) refl
  where
    by_test : (t : Bool) → bytes_eq head.method (codes "OPTIONS") ≡ t → IsPathFrom head (cond t (codes "*") (codes "/"))
    by_test true options =
        let front = absolute_front head.target authority [] f in
        record {
          form = inr (refl, (bytes_eq-Decides head.method (codes "OPTIONS")).0 options);
          short = omega (arith, ap length front.0, length-append {A = ℕ}, front.1);
          no_fragment = refl;
          plain = λ plain. star_plain;
        }
    by_test false other =
        let front = absolute_front head.target authority [] f in
        record {
          form = inl slash_path;
          short = omega (arith, ap length front.0, length-append {A = ℕ}, front.1);
          no_fragment = refl;
          plain = λ plain. slash_plain;
        }
path_of_absolute head authority (b ∷ r) may f =
    let front = absolute_front head.target authority (b ∷ r) f in
    let start : is_path_start b ≡ true = f.ends_name (omega arith) in
    let path = not_nothing b r f.is_rest in
    let len = ap length front.0 ∙ length-append (f.has_scheme.scheme ++ f.name) (b ∷ r) in
    let parts = or_parts (list_any (λ v. v == 35) (f.has_scheme.scheme ++ f.name)) _ (sym (list_any-append (λ v. v == 35) (f.has_scheme.scheme ++ f.name) (b ∷ r)) ∙ sym (ap (list_any (λ v. v == 35)) front.0) ∙ may.no_fragment) in
    let back = back_plain head.target (f.has_scheme.scheme ++ f.name) r b (low_start b start) front.0 in
    by_test start path (omega (arith, len, front.1, may.short)) (omega (arith, len, front.1)) parts.1 back (b == 63) refl
  where
    by_test : is_path_start b ≡ true → IsPathInput (b ∷ r) → length (47 ∷ b ∷ r) ≤ 65534
        → length (47 ∷ b ∷ r) ≤ length head.target → list_any (λ v. v == 35) (b ∷ r) ≡ false
        → (IsPlainTarget head.target → IsPlainTarget (b ∷ r)) → (t : Bool) → (b == 63) ≡ t → IsPathFrom head (cond t (47 ∷ b ∷ r) (b ∷ r))
    by_test start path small short none back true is =
        let mark = eqb-true b 63 is in
        let query = query_path r (omega (arith, small)) (subst (λ (v : ℕ). IsPathInput (v ∷ r)) mark path) in
        record {
          form = inl (record { from_root = refl; is_path = subst (λ (v : ℕ). IsPathInput (47 ∷ v ∷ r)) (sym mark) query });
          short = short;
          no_fragment = none;
          plain = λ plain. slashed_plain (b ∷ r) (back plain);
        }
    by_test start path small short none back false is = record {
      form = inl (record { from_root = slash_start b start is; is_path = path });
      short = omega (arith, short);
      no_fragment = none;
      plain = back;
    }

path_of_form : (head : RequestHead) (form : Form) → NamesForm head form → IsPathFrom head (target_path head form)
path_of_form head Origin names = record { form = inl names.has_form; short = omega arith; no_fragment = names.may_name.no_fragment; plain = λ plain. plain }
path_of_form head (Absolute authority rest) names = path_of_absolute head authority rest names.may_name names.has_form
path_of_form head Asterisk names = record { form = inr names.has_form; short = omega arith; no_fragment = names.may_name.no_fragment; plain = λ plain. plain }

target_from : (head : RequestHead) (target : Target) → HasTarget head target → IsPathFrom head target.path
target_from head target has = subst (IsPathFrom head) (sym has.path_is) (path_of_form head has.form has.names)

pub path_plain : (head : RequestHead) (target : Target) → HasTarget head target → IsPlainTarget head.target → IsPlainTarget target.path
path_plain head target has plain = (target_from head target has).plain plain

pub path_short : (head : RequestHead) (target : Target) → HasTarget head target → length target.path ≤ length head.target
path_short head target has = (target_from head target has).short

pub path_asterisk : (head : RequestHead) (target : Target) → HasTarget head target → target.path ≡ codes "*" → head.method ≡ codes "OPTIONS"
path_asterisk head target has star =
    elim (target_from head target has).form [
      | inl origin ↦ absurd (omega (arith, origin.from_root, ap (λ (t : List ℕ). get_or t 0 0) star))
      | inr both ↦ both.1
    ]

-- ---- the same target

-- a request for the target, by that method
abbrev request_for : List ℕ → Target → Version → List Field → RequestHead
request_for method target version rest =
    record { method = method; target = target.path; version = version; fields = host_field target.host ∷ rest }

one_host_line : (host : List ℕ) (rest : List Field) → has_name (codes "host") rest ≡ false → values_of (codes "host") (host_field host ∷ rest) ≡ host ∷ []
one_host_line host rest none = ap (λ (l : List (List ℕ)). host ∷ l) (values_absent (codes "host") rest none)

same_target_by : (head : RequestHead) (target : Target) (method : List ℕ) (version : Version) (rest : List Field) → HasTarget head target
    → bytes_eq method (codes "CONNECT") ≡ false → has_name (codes "host") rest ≡ false → (form : Form)
    → HasForm (request_for method target version rest) form → ((a : Authority) → target_authority a form ≡ a)
    → target.path ≡ target_path (request_for method target version rest) form → HasTarget (request_for method target version rest) target
same_target_by head target method version rest has no_tunnel no_host form is own path =
    let a = target_authority has.host has.form in
    let from = target_from head target has in
    record {
      host = normal a;
      form = form;
      has_host = record { line = target.host; one_line = one_host_line target.host rest no_host; is_authority = target_normal head target has };
      names = record {
        may_name = record {
          no_tunnel = no_tunnel;
          no_fragment = from.no_fragment;
          short = omega (arith, from.short, has.names.may_name.short);
        };
        has_form = is;
      };
      host_is = has.host_is ∙ normal_again a ∙ ap normal_host (sym (own (normal a)));
      path_is = path;
    }

pub same_method : (head : RequestHead) (target : Target) (version : Version) (rest : List Field) → HasTarget head target → has_name (codes "host") rest ≡ false
    → HasTarget (record { method = head.method; target = target.path; version = version; fields = host_field target.host ∷ rest }) target
same_method head target version rest has no_host =
    let no_tunnel = has.names.may_name.no_tunnel in
    elim (target_from head target has).form [
      | inl origin ↦ same_target_by head target head.method version rest has no_tunnel no_host Origin origin (λ a. refl) refl
      | inr both ↦ same_target_by head target head.method version rest has no_tunnel no_host Asterisk both (λ a. refl) refl
    ]

pub other_method : (head : RequestHead) (target : Target) (method : List ℕ) (version : Version) (rest : List Field) → HasTarget head target
    → target.path ≢ codes "*" → bytes_eq method (codes "CONNECT") ≡ false → has_name (codes "host") rest ≡ false
    → HasTarget (record { method = method; target = target.path; version = version; fields = host_field target.host ∷ rest }) target
other_method head target method version rest has no_star no_tunnel no_host =
    elim (target_from head target has).form [
      | inl origin ↦ same_target_by head target method version rest has no_tunnel no_host Origin origin (λ a. refl) refl
      | inr both ↦ absurd (no_star both.0)
    ]

pub forwarded_plain : (head : RequestHead) (target : Target) (method : List ℕ) (version : Version) (rest : List Field) → HasTarget head target
    → IsPlainTarget head.target → is_token method ≡ true → list_all is_plain_field rest ≡ true
    → IsPlainRequest (record { method = method; target = target.path; version = version; fields = host_field target.host ∷ rest })
forwarded_plain head target method version rest has plain token fields =
    record {
      method = token;
      target = path_plain head target has plain;
      fields = and_from _ _ (and_from _ _ host_plain (host_value head target has).0) fields;
    }

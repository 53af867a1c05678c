-- A request has one target, and the reader of targets finds it.
use Rattle.std.proofs.Common.{◌≡◌, ℕ, ◌<◌, Bool, true, false, not, List, [], ◌∷◌, ◌++◌, length, get_or, take, drop, ◌⊎◌, Result, Ok, Err, refl, sym, ap, subst, ◌∙◌, arith}
use Rattle.std.specs.Prelude.{codes}
use Rattle.std.specs.List.{prefix_len}
use Rattle.std.specs.Char.{to_ascii_lowercase}
use Rattle.std.specs.Str.{str_to_ascii_lowercase}
use Rattle.std.proofs.lemmas.Bool.{not_from_true}
use Rattle.std.proofs.lemmas.Bool.Decides.{nat_tests}
use Rattle.std.proofs.lemmas.List.{take_at, drop_at, length-map, take-append-drop, length-drop, get_or-drop}
use Rattle.std.proofs.lemmas.List.Elements.{All-from_get_or}
use Rattle.std.proofs.lemmas.List.Sums.{prefix_len_stops}
use Rattle.http_uri.specs.Grammar.{IsAuthority, IsPathInput}
use Rattle.http_uri.specs.ByteClasses.{is_delimiter}
use Rattle.http_uri.proofs.AuthorityLemmas.{IsAuthority_no_delimiter}
use Rattle.hc_head.specs.declared.fault.HeadFault.{HeadFault}
use Rattle.hc_head.specs.declared.fault.HeadFault.TheVariants as fault
use Rattle.hc_head.specs.declared.head.RequestHead.{RequestHead}
use Rattle.hc_head.specs.declared.head.Target.{Target}
use Rattle.hc_head.specs.Hosts.{Authority, HasAuthority, normal_host}
use Rattle.hc_head.specs.Targets.{HasHost, is_path_start, IsOriginForm, FollowsScheme, IsAbsoluteForm, Form, Origin, Absolute, Asterisk, HasForm, MayName, target_authority, target_path, absolute_path, HasTarget, GivesTarget, FindsTarget}
use Rattle.hc_head.proofs.HostLemmas.{run_is_front, one_authority}

-- ---- the scheme

pub scheme_length : (text behind : List ℕ) (f : FollowsScheme text behind) → length f.scheme ≡ 7
scheme_length text behind f = sym (length-map f.scheme to_ascii_lowercase) ∙ ap length f.is_http

pub other_scheme : (text scheme : List ℕ) → scheme ≡ take 7 text → (str_to_ascii_lowercase scheme ≡ codes "http://" → ⊥)
    → (behind : List ℕ) → ¬ (FollowsScheme text behind)
other_scheme text scheme front other behind f =
    let same : scheme ≡ f.scheme = front ∙ ap (take 7) f.spelled ∙ take_at f.scheme behind 7 (scheme_length text behind f) in
    other (ap str_to_ascii_lowercase same ∙ f.is_http)

one_scheme : (text a b : List ℕ) → FollowsScheme text a → FollowsScheme text b → a ≡ b
one_scheme text a b f g =
    sym (drop_at f.scheme a 7 (scheme_length text a f)) ∙ ap (drop 7) (sym f.spelled ∙ g.spelled) ∙ drop_at g.scheme b 7 (scheme_length text b g)

-- the scheme's first octet
begins_with_h : (text behind : List ℕ) → FollowsScheme text behind → to_ascii_lowercase (get_or text 0 0) ≡ 104
begins_with_h text behind f = by_octets f.scheme f.is_http f.spelled
  where
    by_octets : (scheme : List ℕ) → str_to_ascii_lowercase scheme ≡ codes "http://" → text ≡ scheme ++ behind → to_ascii_lowercase (get_or text 0 0) ≡ 104
    by_octets [] http spelled = absurd (omega (arith, ap length http))
    by_octets (b ∷ scheme) http spelled = ap (λ (t : List ℕ). to_ascii_lowercase (get_or t 0 0)) spelled ∙ ap (λ (t : List ℕ). get_or t 0 0) http

-- ---- the absolute form

name_octet_no_start : (b : ℕ) → not (is_delimiter b) ≡ true → not (is_path_start b) ≡ true
name_octet_no_start b plain = grind (arith, nat_tests)

authority_run : (name rest : List ℕ) → IsAuthority name → (0 < length rest → is_path_start (get_or rest 0 0) ≡ true)
    → prefix_len (λ b. not (is_path_start b)) (name ++ rest) ≡ length name
authority_run name rest is ends =
    run_is_front (λ b. not (is_path_start b)) name rest
    (All-from_get_or (λ b. not (is_path_start b) ≡ true) name 0 λ i lt. name_octet_no_start (get_or name i 0) (IsAuthority_no_delimiter name is i lt))
    (λ some. not_from_true _ (ends some))

-- an absolute form is cut where the reader cuts it
pub record IsCut (text : List ℕ) (name rest : List ℕ) : Type 0 where
  pub behind : List ℕ
  pub follows : FollowsScheme text behind
  pub front : name ≡ take (prefix_len (λ b. not (is_path_start b)) behind) behind
  pub back : rest ≡ drop (prefix_len (λ b. not (is_path_start b)) behind) behind

pub cut_from : (text behind name rest : List ℕ) (n : ℕ) → FollowsScheme text behind → n ≡ prefix_len (λ b. not (is_path_start b)) behind
    → name ≡ take n behind → rest ≡ drop n behind → IsCut text name rest
cut_from text behind name rest n follows run front back = record {
  behind = behind;
  follows = follows;
  front = front ∙ ap (λ (k : ℕ). take k behind) run;
  back = back ∙ ap (λ (k : ℕ). drop k behind) run;
}

one_cut : (text name rest : List ℕ) → IsCut text name rest → (authority : Authority) (r : List ℕ) → (f : IsAbsoluteForm text authority r)
    → (f.name ≡ name) × (r ≡ rest)
one_cut text name rest cut authority r f =
    let same : cut.behind ≡ f.name ++ r = one_scheme text cut.behind (f.name ++ r) cut.follows f.has_scheme in
    let n = prefix_len (λ b. not (is_path_start b)) cut.behind in
    let run : length f.name ≡ n = sym (ap (prefix_len (λ b. not (is_path_start b))) same ∙ authority_run f.name r f.is_name f.ends_name) in (
      sym (take_at f.name r n run) ∙ ap (take n) (sym same) ∙ sym cut.front,
      sym (drop_at f.name r n run) ∙ ap (drop n) (sym same) ∙ sym cut.back,
    )

pub no_absolute_without_host : (text name rest : List ℕ) → IsCut text name rest → ((a : Authority) → ¬ (HasAuthority name a))
    → (authority : Authority) (r : List ℕ) → ¬ (IsAbsoluteForm text authority r)
no_absolute_without_host text name rest cut none authority r f =
    none authority (subst (λ (t : List ℕ). HasAuthority t authority) (one_cut text name rest cut authority r f).0 f.is_authority)

pub no_absolute_without_authority : (text name rest : List ℕ) → IsCut text name rest → ¬ (IsAuthority name)
    → (authority : Authority) (r : List ℕ) → ¬ (IsAbsoluteForm text authority r)
no_absolute_without_authority text name rest cut none authority r f =
    none (subst IsAuthority (one_cut text name rest cut authority r f).0 f.is_name)

pub no_absolute_without_path : (text name rest : List ℕ) → IsCut text name rest → ¬ ((rest ≡ []) ⊎ IsPathInput rest)
    → (authority : Authority) (r : List ℕ) → ¬ (IsAbsoluteForm text authority r)
no_absolute_without_path text name rest cut none authority r f =
    none (subst (λ (t : List ℕ). (t ≡ []) ⊎ IsPathInput t) (one_cut text name rest cut authority r f).1 f.is_rest)

not_of_not : (b : Bool) → not b ≡ false → b ≡ true
not_of_not true e = refl
not_of_not false e = cc

pub absolute_from_cut : (text name rest : List ℕ) (authority : Authority) → IsCut text name rest → IsAuthority name → HasAuthority name authority
    → (rest ≡ []) ⊎ IsPathInput rest → IsAbsoluteForm text authority rest
absolute_from_cut text name rest authority cut is has path =
    let p : ℕ → Bool = λ b. not (is_path_start b) in
    let n = prefix_len p cut.behind in
    let whole : cut.behind ≡ name ++ rest = sym (take-append-drop n cut.behind) ∙ (λ i. sym cut.front i ++ sym cut.back i) in
    record {
      name = name;
      has_scheme = subst (FollowsScheme text) whole cut.follows;
      is_name = is;
      is_authority = has;
      ends_name = λ some.
          let inside : n < length cut.behind = omega (arith, some, ap length cut.back, length-drop n cut.behind) in
          let stop : not (is_path_start (get_or cut.behind n 0)) ≡ false = prefix_len_stops p cut.behind 0 inside in
          let first : get_or rest 0 0 ≡ get_or cut.behind n 0 =
          ap (λ (t : List ℕ). get_or t 0 0) cut.back ∙ get_or-drop n cut.behind 0 0 ∙ ap (λ (k : ℕ). get_or cut.behind k 0) (omega arith) in
          not_of_not _ (ap (λ (b : ℕ). not (is_path_start b)) first ∙ stop);
      is_rest = path;
    }

-- ---- one target only

one_absolute : (text : List ℕ) (a b : Authority) (r q : List ℕ) → IsAbsoluteForm text a r → IsAbsoluteForm text b q → Absolute a r ≡ Absolute b q
one_absolute text a b r q f g =
    let behind : f.name ++ r ≡ g.name ++ q = one_scheme text (f.name ++ r) (g.name ++ q) f.has_scheme g.has_scheme in
    let p : ℕ → Bool = λ b. not (is_path_start b) in
    let n = length f.name in
    let run : length g.name ≡ n =
    sym (authority_run g.name q g.is_name g.ends_name) ∙ ap (prefix_len p) (sym behind) ∙ authority_run f.name r f.is_name f.ends_name in
    let name : g.name ≡ f.name = sym (take_at g.name q n run) ∙ ap (take n) (sym behind) ∙ take_at f.name r n refl in
    let rest : r ≡ q = sym (drop_at f.name r n refl) ∙ ap (drop n) behind ∙ drop_at g.name q n run in
    let authority = one_authority f.name a b f.is_authority (subst (λ (t : List ℕ). HasAuthority t b) name g.is_authority) in
    λ i. Absolute (authority i) (rest i)

not_origin_and_absolute : (text : List ℕ) (a : Authority) (r : List ℕ) → IsOriginForm text → IsAbsoluteForm text a r → ⊥
not_origin_and_absolute text a r o f =
    let h = begins_with_h text (f.name ++ r) f.has_scheme in
    let slash : to_ascii_lowercase (get_or text 0 0) ≡ 47 = ap to_ascii_lowercase o.from_root in
    omega (arith, h, slash)

not_asterisk_and_absolute : (text : List ℕ) (a : Authority) (r : List ℕ) → text ≡ codes "*" → IsAbsoluteForm text a r → ⊥
not_asterisk_and_absolute text a r star f =
    let h = begins_with_h text (f.name ++ r) f.has_scheme in
    let low : to_ascii_lowercase (get_or text 0 0) ≡ 42 = ap (λ (t : List ℕ). to_ascii_lowercase (get_or t 0 0)) star in
    omega (arith, h, low)

not_origin_and_asterisk : (text : List ℕ) → IsOriginForm text → text ≡ codes "*" → ⊥
not_origin_and_asterisk text o star = omega (arith, o.from_root, ap (λ (t : List ℕ). get_or t 0 0) star)

one_form : (head : RequestHead) (f g : Form) → HasForm head f → HasForm head g → f ≡ g
one_form head Origin Origin p q = refl
one_form head Origin (Absolute b s) p q = absurd (not_origin_and_absolute head.target b s p q)
one_form head Origin Asterisk p q = absurd (not_origin_and_asterisk head.target p q.0)
one_form head (Absolute a r) Origin p q = absurd (not_origin_and_absolute head.target a r q p)
one_form head (Absolute a r) (Absolute b s) p q = one_absolute head.target a b r s p q
one_form head (Absolute a r) Asterisk p q = absurd (not_asterisk_and_absolute head.target a r q.0 p)
one_form head Asterisk Origin p q = absurd (not_origin_and_asterisk head.target q p.0)
one_form head Asterisk (Absolute b s) p q = absurd (not_asterisk_and_absolute head.target b s p.0 q)
one_form head Asterisk Asterisk p q = refl

one_host : (head : RequestHead) (a b : Authority) → HasHost head a → HasHost head b → a ≡ b
one_host head a b p q =
    let line : q.line ≡ p.line = ap (λ (l : List (List ℕ)). head_or l) (sym q.one_line ∙ p.one_line) in
    one_authority p.line a b p.is_authority (subst (λ (t : List ℕ). HasAuthority t b) line q.is_authority)
  where
    head_or : List (List ℕ) → List ℕ
    head_or [] = []
    head_or (x ∷ xs) = x

pub one_target : (head : RequestHead) (one other : Target) → HasTarget head one → HasTarget head other → one ≡ other
one_target head one other p q =
    let host = one_host head p.host q.host p.has_host q.has_host in
    let form = one_form head p.form q.form p.names.has_form q.names.has_form in
    let host-is : one.host ≡ other.host = p.host_is ∙ (λ i. normal_host (target_authority (host i) (form i))) ∙ sym q.host_is in
    let path-is : one.path ≡ other.path = p.path_is ∙ ap (target_path head) form ∙ sym q.path_is in
    λ i. record { host = host-is i; path = path-is i }

pub finds_target : (head : RequestHead) (r : Result Target HeadFault) → GivesTarget r head → (target : Target) → HasTarget head target → FindsTarget r target
finds_target head (Ok found) gives target has = one_target head found target gives has
finds_target head (Err fault.Syntax) gives target has = absurd gives
finds_target head (Err fault.TooManyFields) gives target has = absurd gives
finds_target head (Err fault.TooLong) gives target has = absurd gives
finds_target head (Err fault.Host) gives target has = absurd (gives has.host has.has_host)
finds_target head (Err fault.Target) gives target has = absurd (gives.1 has.form has.names)
finds_target head (Err fault.Memory) gives target has = refl

pub absolute_target : (head : RequestHead) (target : Target) (host authority : Authority) (rest : List ℕ) → HasHost head host → MayName head
    → IsAbsoluteForm head.target authority rest → target.host ≡ normal_host authority → target.path ≡ absolute_path head.method rest → HasTarget head target
absolute_target head target host authority rest has may form host-is path-is = record {
  host = host;
  form = Absolute authority rest;
  has_host = has;
  names = record { may_name = may; has_form = form };
  host_is = host-is;
  path_is = path-is;
}

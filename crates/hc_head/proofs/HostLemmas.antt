-- A text is a host and a port in one way at most, and the scan of hosts finds it.
use Rattle.std.proofs.Common.{◌≡◌, ℕ, suc, ◌+◌, ◌<◌, ◌≤◌, Bool, true, false, cond, ◌&&◌, ◌==◌, nat_lt, List, [], ◌∷◌, ◌++◌, length, get_or, take, drop, ◌⊎◌, None, refl, sym, ap, subst, ◌∙◌, arith, inl, inr, append_assoc, length-append}
use Rattle.std.specs.List.{AllPass, prefix_len}
use Rattle.std.proofs.lemmas.Bool.{and_parts, and_from, eqb-true, eq-eqb, ne_eqb, lt-ltb, ltb-true, cond-true, cond-false, both_ways}
use Rattle.std.proofs.lemmas.List.{take_at, drop_at, take_more, get_or_at, get_or-take, length-take-le, take-append-drop}
use Rattle.std.proofs.lemmas.List.Elements.{All-head, All-tail, All-get_or, All-from_get_or}
use Rattle.std.proofs.lemmas.List.Sums.{prefix_len-le-length, prefix_len_passes}
use Rattle.hc_head.specs.Hosts.{is_name_octet, is_address_octet, IsName, IsAddress, IsHost, is_port, Authority, HasAuthority}
use Rattle.hc_head.specs.HostScan.{IsFront, FindsFront}

-- ---- the run of octets at the front

-- a run that stops behind the front is the front
pub run_is_front : (p : ℕ → Bool) (front rest : List ℕ) → AllPass p front → (0 < length rest → p (get_or rest 0 0) ≡ false)
    → prefix_len p (front ++ rest) ≡ length front
run_is_front p [] [] pass stops = refl
run_is_front p [] (r ∷ rest) pass stops = cond-false (p r) _ _ (stops (omega arith))
run_is_front p (x ∷ front) rest pass stops =
    let later = run_is_front p front rest (All-tail (λ b. p b ≡ true) x front pass) stops in
    let first = All-head (λ b. p b ≡ true) x front pass in
    cond-true (p x) _ _ first ∙ omega (arith, later)

run_passes : (p : ℕ → Bool) (text : List ℕ) → AllPass p (take (prefix_len p text) text)
run_passes p text =
    let n = prefix_len p text in
    let within = prefix_len-le-length p text in
    All-from_get_or (λ b. p b ≡ true) (take n text) 0 λ i lt.
    let below : i < n = omega (arith, length-take-le n text within) in
    rw (get_or-take n text i 0 below) (prefix_len_passes p text i 0 below)

-- a port begins with a colon
port_begins : (port : List ℕ) → is_port port ≡ true → 0 < length port → get_or port 0 0 ≡ 58
port_begins [] port some = absurd (omega arith)
port_begins (c ∷ digits) port some = eqb-true c 58 (and_parts _ _ port).0

port_stops_name : (port : List ℕ) → is_port port ≡ true → 0 < length port → is_name_octet (get_or port 0 0) ≡ false
port_stops_name port is some = ap is_name_octet (port_begins port is some)

-- ---- names

pub name_front : (text : List ℕ) (len : ℕ) → len ≡ prefix_len is_name_octet text → 0 < len → IsFront IsName text len
name_front text len run some =
    let within : len ≤ length text = omega (arith, prefix_len-le-length is_name_octet text, run) in
    record {
      within = within;
      is = (omega (arith, length-take-le len text within, some), subst (λ (n : ℕ). AllPass is_name_octet (take n text)) (sym run) (run_passes is_name_octet text));
      only = λ front port spelled is name.
          sym (run ∙ ap (prefix_len is_name_octet) spelled ∙ run_is_front is_name_octet front port name.1 (port_stops_name port is));
    }

pub no_name_front : (text : List ℕ) (len : ℕ) → len ≡ prefix_len is_name_octet text → len ≤ 0 → FindsFront IsName text None
no_name_front text len run none front port spelled is name =
    let all = run_is_front is_name_octet front port name.1 (port_stops_name port is) in
    omega (arith, run, ap (prefix_len is_name_octet) spelled, all, name.0, none)

-- ---- addresses

-- what follows the bracket that opens an address
behind_bracket : (text front port : List ℕ) → text ≡ front ++ port → (a : IsAddress front) → text ≡ 91 ∷ (a.inner ++ 93 ∷ port)
behind_bracket text front port spelled a =
    spelled ∙ ap (λ (l : List ℕ). l ++ port) a.bracketed ∙ ap (λ (l : List ℕ). 91 ∷ l) (append_assoc a.inner (93 ∷ []) port)

address_run : (inner port : List ℕ) → AllPass is_address_octet inner → prefix_len is_address_octet (inner ++ 93 ∷ port) ≡ length inner
address_run inner port octets = run_is_front is_address_octet inner (93 ∷ port) octets (λ some. refl)

two_more : (n : ℕ) → n + 2 ≡ suc (n + 1)
two_more n = omega arith

address_front : (text behind : List ℕ) (len : ℕ) → text ≡ 91 ∷ behind → len ≡ prefix_len is_address_octet behind → 0 < len
    → len < length behind → get_or behind len 0 ≡ 93 → IsFront IsAddress text (len + 2)
address_front text behind len opened run some inside closed =
    let same : take (len + 2) text ≡ 91 ∷ (take len behind ++ 93 ∷ []) =
    ap (take (len + 2)) opened
    ∙ ap (λ (n : ℕ). take n (91 ∷ behind)) (two_more len)
    ∙ ap (λ (l : List ℕ). 91 ∷ l) (take_more behind len 0 inside ∙ ap (λ (b : ℕ). take len behind ++ b ∷ []) closed) in
    record {
      within = omega (arith, ap length opened, inside);
      is = record {
        inner = take len behind;
        bracketed = same;
        some = omega (arith, length-take-le len behind (omega arith), some);
        octets = subst (λ (n : ℕ). AllPass is_address_octet (take n behind)) (sym run) (run_passes is_address_octet behind);
      };
      only = λ front port spelled is a.
          let whole = sym opened ∙ behind_bracket text front port spelled a in
          let tail : behind ≡ a.inner ++ 93 ∷ port = cc in
          let all = address_run a.inner port a.octets in
          omega (arith, run, ap (prefix_len is_address_octet) tail, all, ap length a.bracketed, length-append a.inner (93 ∷ []));
    }

-- what the scan of an address tests
pub tested_address_front : (text behind : List ℕ) (first len : ℕ) → text ≡ first ∷ behind → len ≡ prefix_len is_address_octet behind
    → (first == 91 && (nat_lt 0 len && (nat_lt len (length behind) && get_or behind len 0 == 93))) ≡ true → IsFront IsAddress text (len + 2)
tested_address_front text behind first len cut run test =
    let opened = and_parts (first == 91) _ test in
    let some = and_parts (nat_lt 0 len) _ opened.1 in
    let inside = and_parts (nat_lt len (length behind)) _ some.1 in
    address_front text behind len (cut ∙ ap (λ (b : ℕ). b ∷ behind) (eqb-true first 91 opened.0)) run (ltb-true 0 len some.0) (ltb-true len (length behind) inside.0) (eqb-true _ 93 inside.1)

pub no_address_front : (text behind : List ℕ) (first len : ℕ) → text ≡ first ∷ behind → len ≡ prefix_len is_address_octet behind
    → (first == 91 && (nat_lt 0 len && (nat_lt len (length behind) && get_or behind len 0 == 93))) ≡ false → FindsFront IsAddress text None
no_address_front text behind first len cut run test front port spelled is a =
    let whole = sym cut ∙ behind_bracket text front port spelled a in
    let opened : first ≡ 91 = cc in
    let tail : behind ≡ a.inner ++ 93 ∷ port = cc in
    let all : len ≡ length a.inner = run ∙ ap (prefix_len is_address_octet) tail ∙ address_run a.inner port a.octets in
    let inside : len < length behind = omega (arith, all, ap length tail, length-append a.inner (93 ∷ port)) in
    let closed : get_or behind len 0 ≡ 93 = ap (λ (l : List ℕ). get_or l len 0) tail ∙ get_or_at a.inner 93 port 0 len (sym all) in
    both_ways _ test
    (and_from _ _ (eq-eqb first 91 opened) (and_from _ _ (lt-ltb 0 len (omega (arith, all, a.some))) (and_from _ _ (lt-ltb len (length behind) inside) (eq-eqb _ 93 closed))))

pub no_address_in_nothing : (text : List ℕ) → text ≡ [] → FindsFront IsAddress text None
no_address_in_nothing text none front port spelled is a = absurd (omega (arith, ap length none, ap length (behind_bracket text front port spelled a)))

-- ---- hosts

-- where a name stands, no address does
not_both : (text : List ℕ) (len : ℕ) → IsFront IsName text len → (front port : List ℕ) → text ≡ front ++ port → IsAddress front → ⊥
not_both text len name front port spelled a =
    let whole = behind_bracket text front port spelled a in
    let first : get_or (take len text) 0 0 ≡ 91 =
    get_or-take len text 0 0 (omega (arith, name.is.0, length-take-le len text name.within)) ∙ ap (λ (l : List ℕ). get_or l 0 0) whole in
    both_ways (is_name_octet 91) refl (ap is_name_octet (sym first) ∙ All-get_or (λ b. is_name_octet b ≡ true) (take len text) 0 0 name.is.0 name.is.1)

host_from_name : (text : List ℕ) (len : ℕ) → IsFront IsName text len → len ≤ 255 → IsFront IsHost text len
host_from_name text len name short = record {
  within = name.within;
  is = (inl name.is, omega (arith, length-take-le len text name.within, short));
  only = λ front port spelled is host.
      elim host.0 [ inl n ↦ name.only front port spelled is n | inr a ↦ absurd (not_both text len name front port spelled a) ];
}

no_host_from_name : (text : List ℕ) (len : ℕ) → IsFront IsName text len → 255 < len → FindsFront IsHost text None
no_host_from_name text len name long front port spelled is host =
    elim host.0
    [ inl n ↦ omega (arith, name.only front port spelled is n, host.1, long) | inr a ↦ not_both text len name front port spelled a ]

host_from_address : (text : List ℕ) (len : ℕ) → FindsFront IsName text None → IsFront IsAddress text len → len ≤ 255 → IsFront IsHost text len
host_from_address text len none address short = record {
  within = address.within;
  is = (inr address.is, omega (arith, length-take-le len text address.within, short));
  only = λ front port spelled is host.
      elim host.0 [ inl n ↦ absurd (none front port spelled is n) | inr a ↦ address.only front port spelled is a ];
}

no_host_from_address : (text : List ℕ) (len : ℕ) → FindsFront IsName text None → IsFront IsAddress text len → 255 < len → FindsFront IsHost text None
no_host_from_address text len none address long front port spelled is host =
    elim host.0
    [ inl n ↦ none front port spelled is n | inr a ↦ omega (arith, address.only front port spelled is a, host.1, long) ]

pub no_host : (text : List ℕ) → FindsFront IsName text None → FindsFront IsAddress text None → FindsFront IsHost text None
no_host text no-name no-address front port spelled is host =
    elim host.0 [ inl n ↦ no-name front port spelled is n | inr a ↦ no-address front port spelled is a ]

-- the front that is a name or else an address
abbrev pub FrontCases : List ℕ → ℕ → Type 0
FrontCases text len = IsFront IsName text len ⊎ (FindsFront IsName text None × IsFront IsAddress text len)

pub host_found : (text : List ℕ) (len : ℕ) → FrontCases text len → len ≤ 255 → IsFront IsHost text len
host_found text len (inl name) short = host_from_name text len name short
host_found text len (inr both) short = host_from_address text len both.0 both.1 short

pub host_too_long : (text : List ℕ) (len : ℕ) → FrontCases text len → 255 < len → FindsFront IsHost text None
host_too_long text len (inl name) long = no_host_from_name text len name long
host_too_long text len (inr both) long = no_host_from_address text len both.0 both.1 long

-- ---- hosts and ports

pub authority_from : (text host port : List ℕ) (len : ℕ) → IsFront IsHost text len → host ≡ take len text → port ≡ drop len text → is_port port ≡ true
    → HasAuthority text (record { host = host; port = port })
authority_from text host port len front host-is port-is is = record {
  spelled = sym (take-append-drop len text) ∙ (λ i. sym host-is i ++ sym port-is i);
  is_host = subst IsHost (sym host-is) front.is;
  is_port = is;
}

pub no_authority_without_host : (text : List ℕ) → FindsFront IsHost text None → (a : Authority) → ¬ (HasAuthority text a)
no_authority_without_host text none a has = none a.host a.port has.spelled has.is_port has.is_host

pub no_authority_without_port : (text port : List ℕ) (len : ℕ) → IsFront IsHost text len → port ≡ drop len text → is_port port ≡ false
    → (a : Authority) → ¬ (HasAuthority text a)
no_authority_without_port text port len front port-is test a has =
    let same : length a.host ≡ len = front.only a.host a.port has.spelled has.is_port has.is_host in
    let whole : port ≡ a.port = port-is ∙ ap (drop len) has.spelled ∙ drop_at a.host a.port len same in
    both_ways _ test (ap is_port whole ∙ has.is_port)

-- ---- one way only

-- how many octets the host at the front has, by its first octet
abbrev host_run : List ℕ → ℕ
host_run text = cond (get_or text 0 0 == 91) (prefix_len is_address_octet (drop 1 text) + 2) (prefix_len is_name_octet text)

no_bracket : (b : ℕ) → is_name_octet b ≡ true → (b == 91) ≡ false
no_bracket b name = ne_eqb b 91 λ opened. both_ways (is_name_octet 91) refl (ap is_name_octet (sym opened) ∙ name)

host_run_is : (host port : List ℕ) → IsName host ⊎ IsAddress host → is_port port ≡ true → host_run (host ++ port) ≡ length host
host_run_is [] port (inl name) is = absurd (omega (arith, name.0))
host_run_is (b ∷ host) port (inl name) is =
    cond-false _ _ _ (no_bracket b (All-head (λ x. is_name_octet x ≡ true) b host name.1))
    ∙ run_is_front is_name_octet (b ∷ host) port name.1 (port_stops_name port is)
host_run_is host port (inr a) is =
    let opened = behind_bracket (host ++ port) host port refl a in
    let run = address_run a.inner port a.octets in
    ap host_run opened ∙ omega (arith, run, ap length a.bracketed, length-append a.inner (93 ∷ []))

-- a text is a host and a port in one way
pub one_authority : (text : List ℕ) (a b : Authority) → HasAuthority text a → HasAuthority text b → a ≡ b
one_authority text a b p q =
    let n = host_run text in
    let first : length a.host ≡ n = sym (host_run_is a.host a.port p.is_host.0 p.is_port) ∙ ap host_run (sym p.spelled) in
    let second : length b.host ≡ n = sym (host_run_is b.host b.port q.is_host.0 q.is_port) ∙ ap host_run (sym q.spelled) in
    let host : a.host ≡ b.host =
    sym (take_at a.host a.port n first) ∙ ap (take n) (sym p.spelled ∙ q.spelled) ∙ take_at b.host b.port n second in
    let port : a.port ≡ b.port =
    sym (drop_at a.host a.port n first) ∙ ap (drop n) (sym p.spelled ∙ q.spelled) ∙ drop_at b.host b.port n second in
    λ i. record { host = host i; port = port i }

-- The name of a cache, and the words of its marks, are tokens.
use Rattle.std.proofs.Common.{◌≡◌, ℕ, suc, ◌≤◌, ◌<◌, ◌^◌, Bool, true, false, cond, ◌&&◌, ◌||◌, List, [], ◌∷◌, length, pos, ◌-ℤ◌, unsigned_abs, Option, refl, sym, ◌∙◌, arith, inl, inr, ⊎_elim}
use Rattle.std.specs.Prelude.{◌==◌, nat_le, Some, None, codes}
use Rattle.std.specs.Char.{is_ascii_alphabetic, is_ascii_alphanumeric}
use Rattle.std.specs.Int.{is_in_range}
use Rattle.std.specs.List.{list_all}
use Rattle.std.proofs.lemmas.Bool.{cases_Bool, cases_eq, ne_eqb, and_from, and_parts, or_left, lt-ltb, leb-true}
use Rattle.std.proofs.lemmas.Int.{ints}
use Rattle.std.proofs.lemmas.List.Sums.{AllPass-from_list_all}
use Rattle.hc_fields.specs.Tokens as via
use Rattle.hc_rules.specs.Laws.{IsCacheName}
use Rattle.hc_fresh.proofs.LimitLemmas.{lifetime_small}
use Rattle.hc_status.specs.Classes.{is_token_octet}
use Rattle.hc_status.specs.Grammar.{IsToken}
use Rattle.hc_status.specs.Texts.{HasShortStatus}
use Rattle.hc_status.specs.declared.cache_status.Handling.TheVariants.{Hit, Fwd}
use Rattle.hc_replies.specs.Laws.{IsWritableStatus}
use Rattle.hc_update.specs.declared.stored.Stored.{Stored}
use Rattle.hc_history.specs.Usable.{age_at, lifetime_of}
use Rattle.hc_service.specs.declared.cases.Cause.{Cause}
use Rattle.hc_service.specs.declared.cases.Cause.TheVariants.{Method, Bypass, NoStore, UriMiss, VaryMiss, Stale, Request}
use Rattle.hc_service.specs.Settings.{is_name, is_name_octet}
use Rattle.hc_service.specs.Cases.{word_of}
use Rattle.hc_service.specs.Laws.{IsToldStatus}
use Rattle.hc_service.specs.Replying.{status_told}
use Rattle.hc_service.specs.Serving.{ttl_at}

octet_of_token : (octet : ℕ) → is_name_octet octet ≡ true → is_token_octet octet ≡ true
octet_of_token octet is =
    ⊎_elim
    (λ (plain : is_ascii_alphanumeric octet ≡ true). or_left _ _ plain)
    (λ (past : is_ascii_alphanumeric octet ≡ false). elim (cases_eq octet 45) [
      | inl e ↦ rw e refl
      | inr a ↦ elim (cases_eq octet 95) [
        | inl e ↦ rw e refl
        | inr b ↦ elim (cases_eq octet 46) [
          | inl e ↦ rw e refl
          | inr d ↦ absurd (false_is_true (sym (none (is_ascii_alphanumeric octet) (octet == 45) (octet == 95) (octet == 46) past (ne_eqb octet 45 a) (ne_eqb octet 95 b) (ne_eqb octet 46 d)) ∙ is))
        ]
      ]
    ])
    (cases_Bool (is_ascii_alphanumeric octet))
  where
    false_is_true : false ≡ true → ⊥
    false_is_true e = cc

    none : (a b c d : Bool) → a ≡ false → b ≡ false → c ≡ false → d ≡ false → (a || b || c || d) ≡ false
    none a b c d ea eb ec ed = rw (ea, eb, ec, ed) refl

all_of_token : (text : List ℕ) → list_all is_name_octet text ≡ true → list_all is_token_octet text ≡ true
all_of_token [] is = refl
all_of_token (octet ∷ text) is =
    let parts = and_parts (is_name_octet octet) (list_all is_name_octet text) is in
    and_from _ _ (octet_of_token octet parts.0) (all_of_token text parts.1)

pub name_is_token : (name : List ℕ) → is_name name ≡ true → IsToken name × (length name ≤ 32)
name_is_token [] is = absurd (cc)
name_is_token (first ∷ rest) is =
    let parts = three_parts (is_ascii_alphabetic first) (nat_le (length rest) 31) (list_all is_name_octet rest) is in
    let short : length rest ≤ 31 = leb-true (length rest) 31 parts.1 in
    ((or_left _ _ parts.0, AllPass-from_list_all is_token_octet rest (all_of_token rest parts.2)), omega arith)
  where
    three_parts : (a b c : Bool) → (a && b && c) ≡ true → (a ≡ true) × (b ≡ true) × (c ≡ true)
    three_parts true true true e = (refl, refl, refl)
    three_parts true true false e = absurd (cc)
    three_parts true false c e = absurd (cc)
    three_parts false b c e = absurd (cc)

pub word_is_token : (cause : Cause) → IsToken (word_of cause)
word_is_token Method = (refl, AllPass-from_list_all is_token_octet (codes "ethod") refl)
word_is_token Bypass = (refl, AllPass-from_list_all is_token_octet (codes "ypass") refl)
word_is_token NoStore = (refl, AllPass-from_list_all is_token_octet (codes "ypass") refl)
word_is_token UriMiss = (refl, AllPass-from_list_all is_token_octet (codes "ri-miss") refl)
word_is_token VaryMiss = (refl, AllPass-from_list_all is_token_octet (codes "ary-miss") refl)
word_is_token Stale = (refl, AllPass-from_list_all is_token_octet (codes "tale") refl)
word_is_token Request = (refl, AllPass-from_list_all is_token_octet (codes "equest") refl)

word_is_short : (cause : Cause) → length (word_of cause) ≤ 64
word_is_short Method = omega arith
word_is_short Bypass = omega arith
word_is_short NoStore = omega arith
word_is_short UriMiss = omega arith
word_is_short VaryMiss = omega arith
word_is_short Stale = omega arith
word_is_short Request = omega arith

difference_short : (a b : ℕ) → a ≤ 2147483648 → b ≤ 2147483648 → unsigned_abs (pos a -ℤ pos b) < 10 ^ 15
difference_short a b small less = omega (arith, ints)

-- the marks that the cache writes can be written and read back
pub hit_writable : (name : List ℕ) (stored : Stored) (moment : ℕ) → is_name name ≡ true → IsWritableStatus name (Hit (Some (ttl_at stored moment)))
hit_writable name stored moment is =
    let token = name_is_token name is in
    record {
      plain = record {
        name = token.0;
        handling = difference_short (lifetime_of stored) (age_at stored moment) (lifetime_small stored.fields stored.times.date) (omega arith);
      };
      short_name = token.1;
      short_word = tt;
    }

pub forward_writable : (name : List ℕ) (cause : Cause) (stored : Bool) → is_name name ≡ true → IsWritableStatus name (Fwd (word_of cause) None stored false)
forward_writable name cause stored is =
    let token = name_is_token name is in
    record {
      plain = record { name = token.0; handling = (word_is_token cause, tt) };
      short_name = token.1;
      short_word = word_is_short cause;
    }

-- and where they tell the origin's status
status_in_mark : (told : Option ℕ) (status : ℕ) → IsToldStatus told → HasShortStatus (status_told told status)
status_in_mark None status small = tt
status_in_mark (Some origin) status small = go (origin == status)
  where
    go : (same : Bool) → HasShortStatus (cond same None (Some origin))
    go true = tt
    go false = omega (arith, small)

pub replacing_writable : (name : List ℕ) (cause : Cause) (told : Option ℕ) (status : ℕ) → is_name name ≡ true → IsToldStatus told
    → IsWritableStatus name (Fwd (word_of cause) (status_told told status) false false)
replacing_writable name cause told status is small =
    let token = name_is_token name is in
    record {
      plain = record { name = token.0; handling = (word_is_token cause, status_in_mark told status small) };
      short_name = token.1;
      short_word = word_is_short cause;
    }

-- the name is a token of Via
mark_of_token : (octet : ℕ) → is_name_octet octet ≡ true → via.is_token_octet octet ≡ true
unfolding via.is_token_octet
mark_of_token octet is =
    ⊎_elim
    (λ (plain : is_ascii_alphanumeric octet ≡ true). or_left _ _ plain)
    (λ (past : is_ascii_alphanumeric octet ≡ false). elim (cases_eq octet 45) [
      | inl e ↦ rw e refl
      | inr a ↦ elim (cases_eq octet 95) [
        | inl e ↦ rw e refl
        | inr b ↦ elim (cases_eq octet 46) [
          | inl e ↦ rw e refl
          | inr d ↦ absurd (false_is_true (sym (none (is_ascii_alphanumeric octet) (octet == 45) (octet == 95) (octet == 46) past (ne_eqb octet 45 a) (ne_eqb octet 95 b) (ne_eqb octet 46 d)) ∙ is))
        ]
      ]
    ])
    (cases_Bool (is_ascii_alphanumeric octet))
  where
    false_is_true : false ≡ true → ⊥
    false_is_true e = cc

    none : (a b c d : Bool) → a ≡ false → b ≡ false → c ≡ false → d ≡ false → (a || b || c || d) ≡ false
    none a b c d ea eb ec ed = rw (ea, eb, ec, ed) refl

all_of_via : (text : List ℕ) → list_all is_name_octet text ≡ true → list_all via.is_token_octet text ≡ true
all_of_via [] is = refl
all_of_via (octet ∷ text) is =
    let parts = and_parts (is_name_octet octet) (list_all is_name_octet text) is in
    and_from _ _ (mark_of_token octet parts.0) (all_of_via text parts.1)

letter_of_name : (octet : ℕ) → is_ascii_alphabetic octet ≡ true → is_name_octet octet ≡ true
letter_of_name octet is = go (is_in_range 48 57 octet) (is_in_range 65 90 octet) (is_in_range 97 122 octet) (octet == 45) (octet == 95) (octet == 46) is
  where
    go : (d a b x y z : Bool) → (a || b) ≡ true → (((d || a) || b) || x || y || z) ≡ true
    go true a b x y z e = refl
    go false true b x y z e = refl
    go false false true x y z e = refl
    go false false false x y z e = absurd (cc)

pub cache_name : (name : List ℕ) → is_name name ≡ true → IsCacheName name
cache_name [] is = absurd (cc)
cache_name (first ∷ rest) is =
    let parts = three_parts (is_ascii_alphabetic first) (nat_le (length rest) 31) (list_all is_name_octet rest) is in
    let short : length rest ≤ 31 = leb-true (length rest) 31 parts.1 in
    record {
      token = and_from _ _ (lt-ltb 0 (suc (length rest)) (omega arith)) (and_from _ _ (mark_of_token first (letter_of_name first parts.0)) (all_of_via rest parts.2));
      short = omega arith;
    }
  where
    three_parts : (a b c : Bool) → (a && b && c) ≡ true → (a ≡ true) × (b ≡ true) × (c ≡ true)
    three_parts true true true e = (refl, refl, refl)
    three_parts true true false e = absurd (cc)
    three_parts true false c e = absurd (cc)
    three_parts false b c e = absurd (cc)

-- and where they say that the request was collapsed
pub collapsed_writable : (name : List ℕ) → is_name name ≡ true → IsWritableStatus name (Fwd (word_of UriMiss) None false true)
collapsed_writable name is =
    let token = name_is_token name is in
    record {
      plain = record { name = token.0; handling = (word_is_token UriMiss, tt) };
      short_name = token.1;
      short_word = word_is_short UriMiss;
    }

-- A directive is read as it was written.
use Rattle.std.proofs.Common.{◌≡◌, ℕ, ◌==◌, ◌+◌, ◌-◌, Bool, true, false, cond, ◌&&◌, ◌||◌, not, List, [], ◌∷◌, ◌++◌, Option, Some, None, length, drop, refl, sym, ap, ◌∙◌, arith}
use Rattle.std.specs.Prelude.{nat_lt}
use Rattle.std.specs.List.{list_all, flat_map, prefix_len, before_first, after_first}
use Rattle.std.specs.Option.{option_map, option_and_then}
use Rattle.std.proofs.lemmas.Bool.Decides.{nat_tests}
use Rattle.std.proofs.Math.Seq.{drop-append-add}
use Rattle.std.proofs.lemmas.List.{take_at, drop_at, length-append}
use Rattle.std.proofs.lemmas.List.Folds.{list_all-append}
use Rattle.hc_fields.specs.Tokens.{is_token_octet, is_token}
use Rattle.hc_directives.specs.QuotedStrings.{is_escapable, is_quoted_text, unescaped_from, unescaped, before_quote, quoted_text}
use Rattle.hc_directives.specs.Directives.{is_equals, argument_of, directive_named, directive_of}
use Rattle.hc_directives.specs.Texts.{escaped, quoted}

and_left : (a b : Bool) → (a && b) ≡ true → a ≡ true
and_left true b e = refl
and_left false b e = absurd (cc)

and_right : (a b : Bool) → (a && b) ≡ true → b ≡ true
and_right true b e = e
and_right false b e = absurd (cc)

and_false : (a b : Bool) → (a && (false && b)) ≡ false
and_false true b = refl
and_false false b = refl

-- ---- the text of a quoted string

text_stands : (text : List ℕ) → list_all is_escapable text ≡ true → is_quoted_text false (flat_map escaped text) ≡ true
text_stands [] all = refl
text_stands (c ∷ cs) all =
    go (c == 34) (c == 92) refl refl (and_left (is_escapable c) (list_all is_escapable cs) all) (text_stands cs (and_right (is_escapable c) (list_all is_escapable cs) all))
  where
    go : (quote backslash : Bool) → (c == 34) ≡ quote → (c == 92) ≡ backslash → is_escapable c ≡ true → is_quoted_text false (flat_map escaped cs) ≡ true
        → is_quoted_text false (cond (quote || backslash) (92 ∷ c ∷ []) (c ∷ []) ++ flat_map escaped cs) ≡ true
    go true backslash q b stands rest = rw (stands, rest) refl
    go false true q b stands rest = rw (stands, rest) refl
    go false false q b stands rest = rw (b, stands, q, rest) refl

text_says : (text : List ℕ) → unescaped (flat_map escaped text) ≡ text
text_says [] = refl
text_says (c ∷ cs) = go (c == 34) (c == 92) refl (text_says cs)
  where
    go : (quote backslash : Bool) → (c == 92) ≡ backslash → unescaped (flat_map escaped cs) ≡ cs
        → unescaped_from false (cond (quote || backslash) (92 ∷ c ∷ []) (c ∷ []) ++ flat_map escaped cs) ≡ c ∷ cs
    go true backslash b rest = ap (λ (o : List ℕ). c ∷ o) rest
    go false true b rest = ap (λ (o : List ℕ). c ∷ o) rest
    go false false b rest = rw b (ap (λ (o : List ℕ). c ∷ o) rest)

-- ---- the quotes about it

quotes_off : (text : List ℕ) → before_quote (text ++ 34 ∷ []) ≡ Some text
quotes_off text =
    let long : length text ≡ length (text ++ 34 ∷ []) - 1 = omega (arith, length-append text (34 ∷ [])) in
    rw (drop_at text (34 ∷ []) (length (text ++ 34 ∷ []) - 1) long, take_at text (34 ∷ []) (length (text ++ 34 ∷ []) - 1) long) refl

quoted_reads : (text : List ℕ) → is_quoted_text false text ≡ true → quoted_text (34 ∷ (text ++ 34 ∷ [])) ≡ Some text
quoted_reads text stands =
    ap (λ (found : Option (List ℕ)). option_and_then (λ t. cond (is_quoted_text false t) (Some t) None) found) (quotes_off text) ∙ rw stands refl

quote_is_no_token_octet : is_token_octet 34 ≡ false
unfolding is_token_octet
quote_is_no_token_octet = refl

equals_is_no_token_octet : is_token_octet 61 ≡ false
unfolding is_token_octet
equals_is_no_token_octet = refl

no_token : (front rest : List ℕ) (c : ℕ) → is_token_octet c ≡ false → is_token (front ++ c ∷ rest) ≡ false
no_token front rest c e = rw (list_all-append is_token_octet front (c ∷ rest), e) (falls (nat_lt 0 (length (front ++ c ∷ rest))) (list_all is_token_octet front))
  where
    falls : (a b : Bool) → (a && (b && false)) ≡ false
    falls true true = refl
    falls true false = refl
    falls false b = refl

pub argument_reads : (text : List ℕ) → list_all is_escapable text ≡ true → argument_of (quoted text) ≡ Some text
argument_reads text all =
    rw (no_token [] (flat_map escaped text ++ 34 ∷ []) 34 quote_is_no_token_octet)
    (ap (option_map unescaped) (quoted_reads (flat_map escaped text) (text_stands text all)) ∙ ap (λ (t : List ℕ). Some t) (text_says text))

-- ---- the equals sign

no_equals : (c : ℕ) → is_token_octet c ≡ true → is_equals c ≡ false
no_equals c token = go (is_equals c) refl
  where
    go : (test : Bool) → is_equals c ≡ test → is_equals c ≡ false
    go true e =
        let at : c ≡ 61 = grind (arith, nat_tests) in
        absurd (cc (ap is_token_octet at, equals_is_no_token_octet))
    go false e = e

name_len : (name text : List ℕ) → list_all is_token_octet name ≡ true → prefix_len (λ c. not (is_equals c)) (name ++ 61 ∷ text) ≡ length name
name_len [] text all = refl
name_len (c ∷ cs) text all =
    let other = no_equals c (and_left (is_token_octet c) (list_all is_token_octet cs) all) in
    let rest = name_len cs text (and_right (is_token_octet c) (list_all is_token_octet cs) all) in
    rw (other, rest) (omega arith)

pick : (whole : Bool) (member before after name text said : List ℕ) → whole ≡ false → before ≡ name → after ≡ text → is_token name ≡ true → argument_of text ≡ Some said
    → cond whole (Some (directive_named member None)) (cond (is_token before) (option_map (λ argument. directive_named before (Some argument)) (argument_of after)) None)
    ≡ Some (directive_named name (Some said))
pick whole member before after name text said w b a token reads = rw (w, b, a, token, reads) refl

pub directive_reads : (name text said : List ℕ) → is_token name ≡ true → argument_of text ≡ Some said → directive_of (name ++ 61 ∷ text) ≡ Some (directive_named name (Some said))
directive_reads name text said token reads =
    let len = name_len name text (and_right (nat_lt 0 (length name)) (list_all is_token_octet name) token) in
    pick (is_token (name ++ 61 ∷ text)) (name ++ 61 ∷ text) (before_first is_equals (name ++ 61 ∷ text)) (after_first is_equals (name ++ 61 ∷ text)) name text said
    (no_token name text 61 equals_is_no_token_octet) (take_at name (61 ∷ text) _ (sym len))
    (ap (λ (n : ℕ). drop (n + 1) (name ++ 61 ∷ text)) len ∙ drop-append-add name (61 ∷ text) 1) token reads

pub token_reads : (text : List ℕ) → is_token text ≡ true → argument_of text ≡ Some text
token_reads text token = rw token refl

pub bare_reads : (name : List ℕ) → is_token name ≡ true → directive_of name ≡ Some (directive_named name None)
bare_reads name token = rw token refl

-- What is written of lines, and what isn't.
use Rattle.std.proofs.Common.{◌≡◌, ◌⊎◌, inl, inr, ◌+◌, ◌-◌, ◌^◌, ℕ, min, List, [], ◌∷◌, ◌++◌, length, take, drop, Option, refl, ap, subst, ◌∙◌, append_assoc, take-append-drop, rules}
use Rattle.std.proofs.lemmas.List.{take_rest}
use Rattle.std.proofs.KnownBytes.{Appends-nil, Appends-trans}
use Rattle.std.specs.Io.KnownBytes.{Appends}
use Rattle.hc_access.specs.declared.lines.Lines.{Lines}
use Rattle.hc_access.specs.Writing.{Mends, PutsAllBut, PutsLines, WritesSome, feeds_in}

-- octets move from the rest to what was written
moved : (said rest octets : List ℕ) (n : ℕ) → said ++ rest ≡ octets → (said ++ take n rest) ++ take (length rest - n) (drop n rest) ≡ octets
moved said rest octets n split = append_assoc said (take n rest) (take (length rest - n) (drop n rest)) ∙ ap (λ l. said ++ (take n rest ++ l)) (take_rest rest n)
    ∙ ap (λ l. said ++ l) (take-append-drop n rest) ∙ split

pub piece_more : (old mid new : Option (List ℕ)) (octets rest : List ℕ) (n : ℕ) → PutsAllBut old mid octets rest → Appends mid new (take n rest)
    → PutsAllBut old new octets (take (length rest - n) (drop n rest))
piece_more old mid new octets rest n puts more = record {
  said = puts.said ++ take n rest;
  octets_are = moved puts.said rest octets n puts.octets_are;
  appended = Appends-trans old mid new _ _ puts.appended more;
}

pub nothing_yet : (old : Option (List ℕ)) (octets : List ℕ) → PutsAllBut old old octets octets
nothing_yet old octets = record { said = []; octets_are = refl; appended = Appends-nil old }

-- a line feed was written, or none
begun : (said rest : List ℕ) → said ++ rest ≡ 10 ∷ [] → (said ≡ []) ⊎ (said ≡ 10 ∷ [])
begun [] rest e = inl refl
begun (octet ∷ []) rest e = inr (search rules)
begun (octet ∷ other ∷ said) rest e = absurd (cc)

pub mends : (old new : Option (List ℕ)) (rest : List ℕ) → PutsAllBut old new (10 ∷ []) rest → Mends old new
mends old new rest puts = record { mended = puts.said; mended_is = begun puts.said rest puts.octets_are; appended = puts.appended }

pub nothing_to_mend : (old : Option (List ℕ)) → Mends old old
nothing_to_mend old = record { mended = []; mended_is = inl refl; appended = Appends-nil old }

pub lines_put : (old new : Option (List ℕ)) (lines rest : List ℕ) (lost : ℕ) → PutsAllBut old new lines rest → lost ≡ min (feeds_in rest) (2 ^ 64 - 1) → PutsLines old new lines lost
lines_put old new lines rest lost puts is = record { said = puts.said; unsaid = rest; lines_are = puts.octets_are; appended = puts.appended; lost_is = is }

pub both_written : (old mid new : Option (List ℕ)) (lines : List ℕ) (lost before behind : ℕ) → Mends old mid → PutsLines mid new lines lost → behind ≡ min (before + lost) (2 ^ 64 - 1)
    → WritesSome old new lines before behind
both_written old mid new lines lost before behind first then is = record {
  mended = first.mended;
  mended_is = first.mended_is;
  said = then.said;
  unsaid = then.unsaid;
  lines_are = then.lines_are;
  appended = Appends-trans old mid new _ _ first.appended then.appended;
  lost = is ∙ ap (λ n. min (before + n) (2 ^ 64 - 1)) then.lost_is;
}

-- neither the lines nor their count have changed before they are written
pub written_behind : (old mid new : Option (List ℕ)) (lines lines' : Lines) (lost before before' behind : ℕ) → Mends old mid → lines' ≡ lines → before' ≡ before → PutsLines mid new lines'.octets.items lost
    → behind ≡ min (before' + lost) (2 ^ 64 - 1) → WritesSome old new lines.octets.items before behind
written_behind old mid new lines lines' lost before before' behind first same counted then is =
    both_written old mid new lines.octets.items lost before behind first (subst (λ (l : Lines). PutsLines mid new l.octets.items lost) same then)
    (is ∙ ap (λ n. min (n + lost) (2 ^ 64 - 1)) counted)

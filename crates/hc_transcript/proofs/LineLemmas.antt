-- What no line begins.
use Rattle.std.proofs.Common.{◌≡◌, ℕ, ◌-◌, true, List, ◌∷◌, ◌++◌, length, get_or, take, drop, refl, sym, ap, subst, ◌∙◌, arith}
use Rattle.std.proofs.lemmas.List.{take_rest}
use Rattle.hc_transcript.specs.declared.format.Format.{Format}
use Rattle.hc_transcript.specs.declared.line.Kind.{Kind}
use Rattle.hc_transcript.specs.declared.line.Kind.TheVariants.{ClientRequest, OriginRequest, OriginResponse, OriginFailure, ClientReply}
use Rattle.hc_transcript.specs.declared.line.Line.{Line}
use Rattle.hc_transcript.specs.declared.line.ToldCause.{ToldCause}
use Rattle.hc_transcript.specs.Records.{letter, line_has_cause}
use Rattle.hc_transcript.specs.Lines.{WritesCause, IsSizeAndCause, IsEnd, IsLineText}
use Rattle.hc_transcript.specs.Numerals.{SplitsAtSpace}
use Rattle.hc_transcript.proofs.NumeralLemmas.{SplitsAtSpace_unique}

-- a kind is known by its letter
pub letter_injective : (a b : Kind) → letter a ≡ letter b → a ≡ b
letter_injective ClientRequest ClientRequest e = refl
letter_injective OriginRequest OriginRequest e = refl
letter_injective OriginResponse OriginResponse e = refl
letter_injective OriginFailure OriginFailure e = refl
letter_injective ClientReply ClientReply e = refl
letter_injective a b e = absurd (omega arith)

-- ---- the end of a line

-- a length and a space stand before a cause
pub size_before : (text : List ℕ) (size : ℕ) (cause : ToldCause) (is : IsSizeAndCause text size cause) → SplitsAtSpace text size is.behind
size_before text size cause is = record { numeral = is.numeral; text_is = is.text_is; writes = is.writes }

-- with no length and space it is no length with a cause
pub no_size_no_end : (text : List ℕ) → ((n : ℕ) (rest : List ℕ) → ¬ (SplitsAtSpace text n rest)) → (size : ℕ) (cause : ToldCause) → ¬ (IsEnd true text size cause)
no_size_no_end text none size cause is = none size is.behind (size_before text size cause is)

-- nor with no cause behind them
pub no_cause_no_end : (text : List ℕ) (found : ℕ) (rest : List ℕ) → SplitsAtSpace text found rest → ((cause : ToldCause) → ¬ (WritesCause rest cause)) → (size : ℕ) (cause : ToldCause)
    → ¬ (IsEnd true text size cause)
no_cause_no_end text found rest splits none size cause is =
    let same = (SplitsAtSpace_unique text found size rest is.behind splits (size_before text size cause is)).1 in
    none cause (subst (λ (t : List ℕ). WritesCause t cause) (sym same) is.writes_cause)

-- a length with a cause, by what is read of it
pub end_with_cause : (text : List ℕ) (size : ℕ) (rest : List ℕ) (cause : ToldCause) → SplitsAtSpace text size rest → WritesCause rest cause → IsEnd true text size cause
end_with_cause text size rest cause splits tells = record { numeral = splits.numeral; behind = rest; text_is = splits.text_is; writes = splits.writes; writes_cause = tells }

-- ---- the line

module _ (format : Format) where
  -- the number of a line stands behind its letter and a space
  pub line_number : (text : List ℕ) (l : Line) (is : IsLineText format text l) → SplitsAtSpace (drop 2 text) l.number (is.moment ++ 32 ∷ is.end)
  line_number text l is = record { numeral = is.number; text_is = ap (drop 2) is.text_is; writes = is.writes_number }

  -- the moment stands behind the number
  pub line_moment : (text : List ℕ) (l : Line) (is : IsLineText format text l) → SplitsAtSpace (is.moment ++ 32 ∷ is.end) l.moment is.end
  line_moment text l is = record { numeral = is.moment; text_is = refl; writes = is.writes_moment }

  -- the rest of a slice pattern, as goals have it
  behind_letter : (text : List ℕ) (n : ℕ) (rest : List ℕ) → SplitsAtSpace (drop 2 text) n rest → SplitsAtSpace (take (length text - 2) (drop 2 text)) n rest
  behind_letter text n rest s = subst (λ (t : List ℕ). SplitsAtSpace t n rest) (sym (take_rest text 2)) s

  -- with no number and space behind the letter the text is no line
  pub no_number_no_line : (text : List ℕ) → ((n : ℕ) (rest : List ℕ) → ¬ (SplitsAtSpace (take (length text - 2) (drop 2 text)) n rest)) → (l : Line) → ¬ (IsLineText format text l)
  no_number_no_line text none l is = none l.number _ (behind_letter text l.number _ (line_number text l is))

  -- with no moment and space behind the number it is none
  pub no_moment_no_line : (text : List ℕ) (number : ℕ) (rest : List ℕ) → SplitsAtSpace (take (length text - 2) (drop 2 text)) number rest
      → ((n : ℕ) (tail : List ℕ) → ¬ (SplitsAtSpace rest n tail)) → (l : Line) → ¬ (IsLineText format text l)
  no_moment_no_line text number rest found none l is =
      let same = (SplitsAtSpace_unique _ number l.number rest _ found (behind_letter text l.number _ (line_number text l is))).1 in
      none l.moment is.end (subst (λ (t : List ℕ). SplitsAtSpace t l.moment is.end) (sym same) (line_moment text l is))

  -- with no end of a line of its kind behind the moment it is none
  pub no_end_no_line : (text : List ℕ) (k : Kind) (number : ℕ) (rest : List ℕ) (moment : ℕ) (tail : List ℕ) → letter k ≡ get_or text 0 0
      → SplitsAtSpace (take (length text - 2) (drop 2 text)) number rest → SplitsAtSpace rest moment tail
      → ((size : ℕ) (cause : ToldCause) → ¬ (IsEnd (line_has_cause format k) tail size cause)) → (l : Line) → ¬ (IsLineText format text l)
  no_end_no_line text k number rest moment tail kind found then none l is =
      let kind-is : l.kind ≡ k = letter_injective l.kind k (sym (ap (λ (t : List ℕ). get_or t 0 0) is.text_is) ∙ sym kind) in
      let same = (SplitsAtSpace_unique _ number l.number rest _ found (behind_letter text l.number _ (line_number text l is))).1 in
      let last = (SplitsAtSpace_unique _ moment l.moment tail _ then (subst (λ (t : List ℕ). SplitsAtSpace t l.moment is.end) (sym same) (line_moment text l is))).1 in
      none l.size l.cause (subst (λ (t : List ℕ). IsEnd (line_has_cause format k) t l.size l.cause) (sym last) (subst (λ (j : Kind). IsEnd (line_has_cause format j) is.end l.size l.cause) kind-is is.ends))

-- Where a first line ends.
use Rattle.std.proofs.Common.{◌≡◌, ℕ, ◌+◌, ◌<◌, true, false, List, length, get_or, take, drop, refl, sym, ap, ◌∙◌, arith, length-take}
use Rattle.std.specs.List.{list_any}
use Rattle.hc_transcript.specs.Limits.{longest_line}
use Rattle.hc_transcript.specs.Lines.{BeginsLine, is_feed}
use Rattle.hc_transcript.proofs.MarkLemmas.{mark_within, split_at_octet}

-- the first line feed ends the first line
pub line_before_feed : (octets : List ℕ) (at : ℕ) → at < length octets → at < longest_line → get_or octets at 0 ≡ 10 → list_any is_feed (take at octets) ≡ false → BeginsLine octets (take at octets)
line_before_feed octets at within short feed before =
    record { after = drop (at + 1) octets; octets_are = split_at_octet octets at 10 within feed; no_feed = before; short = omega (arith, length-take at octets) }

not_false : true ≡ false → ⊥
not_false e = cc

-- as many octets as a line may have without a line feed begin no line
pub no_line_without_feed : (octets : List ℕ) → list_any is_feed (take longest_line octets) ≡ false → (text : List ℕ) → ¬ (BeginsLine octets text)
no_line_without_feed octets none text b =
    not_false (sym (ap (λ (o : List ℕ). list_any is_feed (take longest_line o)) b.octets_are ∙ mark_within is_feed text b.after 10 longest_line refl b.short) ∙ none)

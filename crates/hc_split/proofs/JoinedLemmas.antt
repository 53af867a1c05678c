-- One part more, and all parts.
use Rattle.std.proofs.Common.{inl, inr, ◌≡◌, ◌≢◌, ◌⊎◌, ◌<◌, ◌≤◌, ◌+◌, ℕ, zero, suc, List, Some, sym, ap, subst, ◌∙◌, arith}
use Rattle.std.specs.Prelude.{slice_get}
use Rattle.hc_head.specs.declared.head.Target.{Target}
use Rattle.hc_transcript.specs.declared.format.Format.{Format}
use Rattle.hc_transcript.specs.declared.record.Record.{Record}
use Rattle.hc_transcript.specs.Items.{Item}
use Rattle.hc_transcript.specs.Transcript.{IsTranscript}
use Rattle.hc_history.specs.declared.reasons.Reason.{Reason}
use Rattle.hc_history.specs.declared.settings.Settings.{Settings}
use Rattle.hc_history.specs.declared.verdicts.Counts.{Counts}
use Rattle.hc_history.specs.declared.verdicts.Verdict.TheVariants.{Yes}
use Rattle.hc_history.specs.Verdicts.{IsVerdict}
use Rattle.hc_parts.specs.Joining.{AreRightParts, IsClearBefore, IsPartWrong, added}
use Rattle.hc_parts.specs.Parts.{KeepsCauses, part_octets}
use Rattle.hc_parts.proofs.JoinLemmas.{all_of_yes, least_is_first}
use Rattle.hc_split.specs.declared.joining.Joined.{Joined}
use Rattle.hc_split.specs.declared.joining.Joined.TheVariants as whole
use Rattle.hc_split.specs.declared.joining.Told.{Told}
use Rattle.hc_split.specs.declared.joining.Told.TheVariants as part
use Rattle.hc_split.specs.Joined.{AllAreTold, IsFirstOf, JoinsFirst, SaysOfWhole}

-- a number below the next one is below, or is it
below_next : (j n : ℕ) → j < n + 1 → (j < n) ⊎ (j ≡ n)
below_next j n lt = grind arith

-- something is told of one part more
pub all_told : (n : ℕ) (told : List Told) (one : Told) → slice_get told n ≡ Some one → one ≢ part.Nothing → AllAreTold n told → AllAreTold (n + 1) told
all_told n told one at some before j lt none = by (below_next j n lt)
  where
    same : Some one ≡ Some part.Nothing → one ≡ part.Nothing
    same e = cc

    by : (j < n) ⊎ (j ≡ n) → ⊥
    by (inl less) = before j less none
    by (inr is) = some (same (sym at ∙ ap (λ (k : ℕ). slice_get told k) (sym is) ∙ none))

pub right_told : (counts : Counts) → part.Right counts ≢ part.Nothing
right_told counts e = cc

pub wrong_told : (position : ℕ) (why : Reason) → part.Wrong position why ≢ part.Nothing
wrong_told position why e = cc

module _ (parted : Target → ℕ) (format : Format) (settings : Settings) (records : List Record) (h : List Item) where
  -- each of right parts is right
  each_right : (n : ℕ) (counts : Counts) (j : ℕ) → AreRightParts parted format settings records h n counts → j < n
      → (own : Counts) × IsVerdict (part_octets parted format j records h) settings (Yes own)
  each_right zero counts j are lt = absurd (omega (arith, lt))
  each_right (suc n) counts j are lt = by (each_right n are.0 j are.2) (below_next j n (omega (arith, lt)))
    where
      by : (j < n → (own : Counts) × IsVerdict (part_octets parted format j records h) settings (Yes own)) → (j < n) ⊎ (j ≡ n)
          → (own : Counts) × IsVerdict (part_octets parted format j records h) settings (Yes own)
      by before (inl less) = before less
      by before (inr is) = (are.1, subst (λ (k : ℕ). IsVerdict (part_octets parted format k records h) settings (Yes are.1)) (sym is) are.3)

  -- right parts, and one more that is right
  pub right_right : (n : ℕ) (counts own sum : Counts) → AreRightParts parted format settings records h n counts → IsVerdict (part_octets parted format n records h) settings (Yes own)
      → sum ≡ added counts own → AreRightParts parted format settings records h (n + 1) sum
  right_right n counts own sum are is sum-is = subst (λ (m : ℕ). AreRightParts parted format settings records h m sum) next (counts, own, are, is, sum-is)
    where
      next : suc n ≡ n + 1
      next = omega arith

  -- right parts, and one more that is wrong
  pub right_wrong : (n position : ℕ) (counts : Counts) (why : Reason) → AreRightParts parted format settings records h n counts
      → IsPartWrong parted format settings records h n position why → IsFirstOf parted format settings records h (n + 1) position why
  right_wrong n position counts why are is = record {
    number = n;
    is_wrong = is;
    clear = λ j lt. by j (below_next j n lt);
  }
    where
      by : (j : ℕ) → (j < n) ⊎ (j ≡ n) → IsClearBefore parted format settings records h position j
      by j (inl less) = inl (each_right n counts j are less)
      by j (inr same) = inr (position, why, subst (λ (k : ℕ). IsPartWrong parted format settings records h k position why) (sym same) is, omega arith)

  -- a wrong part, and one more that is right
  pub wrong_right : (n position : ℕ) (why : Reason) (own : Counts) → IsFirstOf parted format settings records h n position why
      → IsVerdict (part_octets parted format n records h) settings (Yes own) → IsFirstOf parted format settings records h (n + 1) position why
  wrong_right n position why own first is = record {
    number = first.number;
    is_wrong = first.is_wrong;
    clear = λ j lt. by j (below_next j n lt);
  }
    where
      by : (j : ℕ) → (j < n) ⊎ (j ≡ n) → IsClearBefore parted format settings records h position j
      by j (inl less) = first.clear j less
      by j (inr same) = inl (own, subst (λ (k : ℕ). IsVerdict (part_octets parted format k records h) settings (Yes own)) (sym same) is)

  -- what is clear before a position is clear before an earlier one
  clear_earlier : (earlier later j : ℕ) → earlier ≤ later → IsClearBefore parted format settings records h later j → IsClearBefore parted format settings records h earlier j
  clear_earlier earlier later j le (inl right) = inl right
  clear_earlier earlier later j le (inr wrong) = inr (wrong.0, wrong.1, wrong.2, omega (arith, le, wrong.3))

  -- a wrong part, and one more that is wrong earlier
  pub wrong_earlier : (n position other : ℕ) (why reason : Reason) → IsFirstOf parted format settings records h n position why
      → IsPartWrong parted format settings records h n other reason → other < position → IsFirstOf parted format settings records h (n + 1) other reason
  wrong_earlier n position other why reason first is lt = record {
    number = n;
    is_wrong = is;
    clear = λ j less. by j (below_next j n less);
  }
    where
      by : (j : ℕ) → (j < n) ⊎ (j ≡ n) → IsClearBefore parted format settings records h other j
      by j (inl less) = clear_earlier other position j (omega (arith, lt)) (first.clear j less)
      by j (inr same) = inr (other, reason, subst (λ (k : ℕ). IsPartWrong parted format settings records h k other reason) (sym same) is, omega arith)

  -- or not
  pub wrong_later : (n position other : ℕ) (why reason : Reason) → IsFirstOf parted format settings records h n position why
      → IsPartWrong parted format settings records h n other reason → position ≤ other → IsFirstOf parted format settings records h (n + 1) position why
  wrong_later n position other why reason first is le = record {
    number = first.number;
    is_wrong = first.is_wrong;
    clear = λ j less. by j (below_next j n less);
  }
    where
      by : (j : ℕ) → (j < n) ⊎ (j ≡ n) → IsClearBefore parted format settings records h position j
      by j (inl less) = first.clear j less
      by j (inr same) = inr (other, reason, subst (λ (k : ℕ). IsPartWrong parted format settings records h k other reason) (sym same) is, le)

  -- what all parts tell is so of the whole
  pub joins_all : (octets : List ℕ) (n : ℕ) (joined : Joined) → IsTranscript format octets records h → KeepsCauses parted h → ((target : Target) → parted target < n)
      → JoinsFirst parted format settings records h n joined → SaysOfWhole octets settings joined
  joins_all octets n (whole.Right counts) is keeps few are = all_of_yes parted format octets settings records h is keeps n few counts are
  joins_all octets n (whole.Wrong position why) is keeps few first =
      least_is_first parted format octets settings records h is keeps n few first.number position why first.is_wrong first.clear
  joins_all octets n (whole.Lacking k) is keeps few first = tt
  joins_all octets n whole.TooMany is keeps few first = tt

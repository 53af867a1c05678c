-- What the verdicts on all parts tell of the whole.
use Rattle.std.specs.Prelude.{◌≡◌, ◌⊎◌, ◌≤◌, ◌+◌, ℕ, zero, suc, List}
use Rattle.std.specs.List.{Contains}
use Rattle.hc_head.specs.declared.head.Target.{Target}
use Rattle.hc_transcript.specs.declared.format.Format.{Format}
use Rattle.hc_transcript.specs.declared.record.Record.{Record}
use Rattle.hc_transcript.specs.Items.{Item}
use Rattle.hc_history.specs.declared.reasons.Reason.{Reason}
use Rattle.hc_history.specs.declared.settings.Settings.{Settings}
use Rattle.hc_history.specs.declared.verdicts.Counts.{Counts}
use Rattle.hc_history.specs.declared.verdicts.Verdict.TheVariants.{Yes, No}
use Rattle.hc_history.specs.declared.wrong.WrongReply.{WrongReply}
use Rattle.hc_history.specs.Counting.{no_counts}
use Rattle.hc_history.specs.Verdicts.{IsVerdict}
use Rattle.hc_history.specs.WrongReplies.{AreWrongIn}
use Rattle.hc_parts.specs.Parts.{items_in, part_octets, position_in}

-- two counts as one
abbrev pub added : Counts → Counts → Counts
added one other = record {
  records = one.records + other.records;
  replies = one.replies + other.replies;
  hits = one.hits + other.hits;
  forwarded = one.forwarded + other.forwarded;
  unmarked = one.unmarked + other.unmarked;
}

module _ (part : Target → ℕ) (format : Format) (settings : Settings) (records : List Record) (h : List Item) where
  -- the first n parts are right, and so much is counted in them together
  abbrev pub AreRightParts : ℕ → Counts → Type 0
  AreRightParts zero counts = counts ≡ no_counts
  AreRightParts (suc n) counts =
      (before : Counts) × (own : Counts) × AreRightParts n before × IsVerdict (part_octets part format n records h) settings (Yes own) × (counts ≡ added before own)

  -- the verdict on a part is no, for that reason, at a reply that stands at that position of the whole
  pub record IsPartWrong (k position : ℕ) (why : Reason) : Type 0 where
    pub place : ℕ
    pub verdict : IsVerdict (part_octets part format k records h) settings (No place why)
    pub position_is : position ≡ position_in part k place h

  -- the verdict on a part is yes, or no at that position of the whole or later
  abbrev pub IsClearBefore : ℕ → ℕ → Type 0
  IsClearBefore position k =
      ((counts : Counts) × IsVerdict (part_octets part format k records h) settings (Yes counts))
      ⊎ ((later : ℕ) × (why : Reason) × IsPartWrong k later why × (position ≤ later))

-- ---- all wrong replies

-- a wrong reply of a part, by where it stands in the whole
abbrev pub in_whole : (Target → ℕ) → ℕ → List Item → WrongReply → WrongReply
in_whole part k h wrong = record { position = position_in part k wrong.position h; reason = wrong.reason }

-- a wrong reply of the whole is one of a part
pub record IsWrongInPart (part : Target → ℕ) (format : Format) (settings : Settings) (h : List Item) (wrong : WrongReply) : Type 0 where
  pub part_is : ℕ
  pub there : WrongReply
  pub wrong_is : wrong ≡ in_whole part part_is h there
  pub is_listed : (others : List WrongReply) → AreWrongIn format settings (items_in part part_is h) others → Contains others there

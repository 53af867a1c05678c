-- What is counted in a transcript.
use Rattle.std.specs.Prelude.{ℕ, ◌+◌, ◌≤◌, List, [], ◌∷◌, Option, Some, None}
use Rattle.hc_status.specs.declared.marks.Mark.{Mark}
use Rattle.hc_status.specs.declared.marks.Mark.TheVariants.{Hit, Forwarded, Both, Unmarked}
use Rattle.hc_transcript.specs.declared.format.Format.{Format}
use Rattle.hc_transcript.specs.Items.{Item}
use Rattle.hc_history.specs.declared.settings.Settings.{Settings}
use Rattle.hc_history.specs.declared.verdicts.Counts.{Counts}
use Rattle.hc_history.specs.Marks.{item_mark}

abbrev pub no_counts : Counts
no_counts = record { records = 0; replies = 0; hits = 0; forwarded = 0; unmarked = 0 }

abbrev pub one_more : Counts → Counts
one_more c = record { records = c.records + 1; replies = c.replies; hits = c.hits; forwarded = c.forwarded; unmarked = c.unmarked }

-- one reply more, by what it says of itself
abbrev pub marked_by : Mark → Counts → Counts
marked_by (Hit ttl) c = record { records = c.records; replies = c.replies + 1; hits = c.hits + 1; forwarded = c.forwarded; unmarked = c.unmarked }
marked_by (Forwarded collapsed) c = record { records = c.records; replies = c.replies + 1; hits = c.hits; forwarded = c.forwarded + 1; unmarked = c.unmarked }
marked_by Both c = record { records = c.records; replies = c.replies + 1; hits = c.hits; forwarded = c.forwarded; unmarked = c.unmarked }
marked_by Unmarked c = record { records = c.records; replies = c.replies + 1; hits = c.hits; forwarded = c.forwarded; unmarked = c.unmarked + 1 }

-- what is no reply has no mark
abbrev pub marked : Option Mark → Counts → Counts
marked None c = c
marked (Some mark) c = marked_by mark c

-- what is counted in a history, by the marks by which its replies are judged
abbrev pub counts_of : Format → Settings → List Item → Counts
counts_of format settings [] = no_counts
counts_of format settings (item ∷ h) = marked (item_mark format settings h item) (one_more (counts_of format settings h))

-- none of the counts is over a number
pub record AreAtMost (most : ℕ) (c : Counts) : Type 0 where
  pub records : c.records ≤ most
  pub replies : c.replies ≤ most
  pub hits : c.hits ≤ most
  pub forwarded : c.forwarded ≤ most
  pub unmarked : c.unmarked ≤ most

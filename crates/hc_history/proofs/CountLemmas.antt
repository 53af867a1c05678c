-- No count is over the number of items.
use Rattle.std.proofs.Common.{ℕ, ◌+◌, ◌≤◌, List, [], ◌∷◌, length, Option, Some, None, arith}
use Rattle.hc_status.specs.declared.marks.Mark.{Mark}
use Rattle.hc_status.specs.declared.marks.Mark.TheVariants.{Hit, Forwarded, Both, Unmarked}
use Rattle.hc_transcript.specs.declared.format.Format.{Format}
use Rattle.hc_transcript.specs.Items.{Item}
use Rattle.hc_history.specs.declared.settings.Settings.{Settings}
use Rattle.hc_history.specs.declared.verdicts.Counts.{Counts}
use Rattle.hc_history.specs.Counting.{AreAtMost, counts_of, marked, marked_by, one_more}
use Rattle.hc_history.specs.Marks.{item_mark}

-- one item more adds one at most to each
at_most_by : (n : ℕ) (m : Mark) (c : Counts) → AreAtMost n c → AreAtMost (n + 1) (marked_by m (one_more c))
at_most_by n (Hit ttl) c a = record {
  records = omega (arith, a.records);
  replies = omega (arith, a.replies);
  hits = omega (arith, a.hits);
  forwarded = omega (arith, a.forwarded);
  unmarked = omega (arith, a.unmarked);
}
at_most_by n (Forwarded collapsed) c a = record {
  records = omega (arith, a.records);
  replies = omega (arith, a.replies);
  hits = omega (arith, a.hits);
  forwarded = omega (arith, a.forwarded);
  unmarked = omega (arith, a.unmarked);
}
at_most_by n Both c a = record {
  records = omega (arith, a.records);
  replies = omega (arith, a.replies);
  hits = omega (arith, a.hits);
  forwarded = omega (arith, a.forwarded);
  unmarked = omega (arith, a.unmarked);
}
at_most_by n Unmarked c a = record {
  records = omega (arith, a.records);
  replies = omega (arith, a.replies);
  hits = omega (arith, a.hits);
  forwarded = omega (arith, a.forwarded);
  unmarked = omega (arith, a.unmarked);
}

pub at_most_more : (n : ℕ) (mark : Option Mark) (c : Counts) → AreAtMost n c → AreAtMost (n + 1) (marked mark (one_more c))
at_most_more n None c a = record {
  records = omega (arith, a.records);
  replies = omega (arith, a.replies);
  hits = omega (arith, a.hits);
  forwarded = omega (arith, a.forwarded);
  unmarked = omega (arith, a.unmarked);
}
at_most_more n (Some m) c a = at_most_by n m c a

pub lift : (n k : ℕ) (c : Counts) → AreAtMost n c → n ≤ k → AreAtMost k c
lift n k c a few = record {
  records = omega (arith, a.records, few);
  replies = omega (arith, a.replies, few);
  hits = omega (arith, a.hits, few);
  forwarded = omega (arith, a.forwarded, few);
  unmarked = omega (arith, a.unmarked, few);
}

pub at_most_items : (format : Format) (settings : Settings) (h : List Item) → AreAtMost (length h) (counts_of format settings h)
at_most_items format settings [] = record { records = omega (arith); replies = omega (arith); hits = omega (arith); forwarded = omega (arith); unmarked = omega (arith) }
at_most_items format settings (item ∷ h) =
    lift (length h + 1) (length (item ∷ h)) (counts_of format settings (item ∷ h))
    (at_most_more (length h) (item_mark format settings h item) (counts_of format settings h) (at_most_items format settings h)) (omega (arith))

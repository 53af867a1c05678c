-- A line of the access log: the Combined Log Format, and behind it three values of hcache's own.
use Rattle.std.specs.Prelude.{ℕ, List, ◌++◌, take, drop, codes, decimal}
use Rattle.hc_fresh.specs.Dates.{imf_fixdate_at}
use Rattle.hc_access.specs.declared.asked.Asked.{Asked}
use Rattle.hc_access.specs.declared.line.Replied.{Replied}
use Rattle.hc_access.specs.Values.{quoted, value_text}

-- the day and the time of day of a moment, as in 26/Nov/2026:17:06:06 +0000: the parts of an IMF-fixdate, otherwise put together
abbrev pub day_and_time : ℕ → List ℕ
day_and_time moment = take 2 (drop 5 (imf_fixdate_at moment)) ++ (codes "/" ++ (take 3 (drop 8 (imf_fixdate_at moment)) ++ (codes "/"
    ++ (take 4 (drop 12 (imf_fixdate_at moment)) ++ (codes ":" ++ (take 8 (drop 17 (imf_fixdate_at moment)) ++ codes " +0000"))))))

-- who asked, when and what
abbrev pub begin_text : List ℕ → List ℕ → List ℕ → List ℕ
begin_text client time line = value_text client ++ (codes " - - [" ++ (value_text time ++ (codes "] " ++ line)))

-- the status and the size of what was replied
abbrev pub replied_text : List ℕ → ℕ → List ℕ
replied_text status size = codes " " ++ (value_text status ++ (codes " " ++ (decimal size ++ codes " ")))

-- two values of the request, and then the mark and the trouble
abbrev pub behind_text : List ℕ → List ℕ → List ℕ → List ℕ
behind_text beside mark trouble = beside ++ (codes " " ++ (quoted mark ++ (codes " " ++ (quoted trouble ++ codes " "))))

-- a line but for how long it took
abbrev pub front_text : List ℕ → List ℕ → Asked → Replied → List ℕ
front_text client time asked replied =
    begin_text client time asked.line.items ++ (replied_text replied.status.now replied.size ++ behind_text asked.beside.items replied.mark.now replied.trouble.now)

-- What a report says in JSON of what it counts and lists.
use Rattle.std.specs.Prelude.{◌≡◌, ◌≤◌, ◌||◌, ℕ, Bool, true, false, List, [], ◌∷◌, ◌++◌, Option, codes, option_map}
use Rattle.std.specs.Str.{bytes_eq}
use Rattle.serde_json.specs.Data.{Members, members_depth}
use Rattle.serde_json.specs.Find.{get_member}
use Rattle.hc_figures.specs.Entries.{Entry, HaveAll, number_at, object_with, some_data}
use Rattle.hc_history.specs.declared.verdicts.Counts.{Counts}
use Rattle.hc_history.specs.declared.wrong.Ending.{Ending}
use Rattle.hc_history.specs.declared.wrong.WrongReply.{WrongReply}
use Rattle.hc_figures.specs.declared.counts.ReplyCounts.{ReplyCounts}
use Rattle.hc_figures.specs.declared.listed.ListedReplies.{ListedReplies}
use Rattle.hc_figures.specs.Counts.{judged_of}
use Rattle.hc_figures.specs.Json.{end_entries, octet_entries, reply_entries, verdict_entries, warning_data, wrongs_entries}

-- the verdict, where that is the first wrong reply, and how the transcript ends
abbrev pub end_figures : Option WrongReply → Ending → List Entry
end_figures first ending = (codes "verdict", object_with (verdict_entries first ending)) ∷ (codes "ends", object_with (end_entries ending)) ∷ []

-- what is counted of its replies
abbrev pub count_entries : ReplyCounts → List Entry
count_entries replies =
    (codes "replies", object_with (reply_entries replies)) ∷ (codes "octets", object_with (octet_entries replies))
    ∷ number_at (codes "judged") (judged_of replies) ∷ (codes "warning", warning_data replies) ∷ []

-- all, where so much was counted of its records
abbrev pub figure_entries : ReplyCounts → ListedReplies → Ending → Option Counts → List Entry
figure_entries replies wrongs ending counts =
    end_figures wrongs.first ending ++ (codes "records", some_data (option_map (λ c. c.records) counts)) ∷ []
    ++ count_entries replies ++ (codes "wrong", object_with (wrongs_entries wrongs)) ∷ []

-- ---- what members have

-- so many levels has the JSON of a report at most, below the report itself
abbrev pub deepest : ℕ
deepest = 3

-- the members have them all
pub record HaveFigures (replies : ReplyCounts) (wrongs : ListedReplies) (ending : Ending) (counts : Option Counts) (members : Members) : Type 0 where
  pub all : HaveAll (figure_entries replies wrongs ending counts) members
  pub nest : members_depth members ≤ deepest

-- whether one of them has that name
abbrev pub is_one : List ℕ → List (List ℕ) → Bool
is_one name [] = false
is_one name (other ∷ others) = bytes_eq name other || is_one name others

abbrev pub is_figure : List ℕ → Bool
is_figure name =
    is_one name (codes "verdict" ∷ codes "ends" ∷ codes "records" ∷ codes "replies" ∷ codes "octets" ∷ codes "judged" ∷ codes "warning" ∷ codes "wrong" ∷ [])

-- what was put in leaves them as they are
pub record LeavesFigures (old new : Members) : Type 0 where
  pub same : (name : List ℕ) → is_figure name ≡ true → get_member name new ≡ get_member name old
  pub nest : members_depth old ≤ deepest → members_depth new ≤ deepest

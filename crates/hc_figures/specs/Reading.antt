-- What a reader of a report in JSON finds there.
use Rattle.std.specs.Prelude.{◌≡◌, ◌-◌, ℕ, true, false, List, [], ◌∷◌, Option, None, Some, codes, length, option_and_then, option_map, string_bytes}
use Rattle.serde_json.specs.Data.{Data, Items, no_items, item, array, boolean, string}
use Rattle.serde_json.specs.Find.{get}
use Rattle.hc_figures.specs.Entries.{number_data, some_data}
use Rattle.hc_transcript.specs.declared.fault.RecordFault.{RecordFault}
use Rattle.hc_transcript.specs.Names.{fault_name, fault_number}
use Rattle.hc_history.specs.declared.verdicts.Counts.{Counts}
use Rattle.hc_history.specs.declared.wrong.Ending.{Ending}
use Rattle.hc_history.specs.declared.wrong.Ending.TheVariants.{Whole, Broken}
use Rattle.hc_history.specs.declared.wrong.WrongReply.{WrongReply}
use Rattle.hc_history.specs.Names.{reason_name, reason_number}
use Rattle.hc_figures.specs.declared.counts.ReplyCounts.{ReplyCounts}
use Rattle.hc_figures.specs.declared.listed.ListedReplies.{ListedReplies}
use Rattle.hc_figures.specs.declared.listed.ListedReply.{ListedReply}
use Rattle.hc_figures.specs.Counts.{all_of, judged_of}
use Rattle.hc_figures.specs.Json.{warning_data}

-- a member of a member
abbrev pub inside : List ℕ → List ℕ → Data → Option Data
inside first second d = option_and_then (get second) (get first d)

-- ---- the verdict, and how the transcript ends

pub record IsWrongIn (wrong : WrongReply) (d : Data) : Type 0 where
  pub position : get (codes "position") d ≡ Some (number_data wrong.position)
  pub reason : get (codes "reason") d ≡ Some (number_data (reason_number wrong.reason))
  pub name : get (codes "name") d ≡ Some (string (reason_name wrong.reason))

pub record IsBreakIn (position : ℕ) (fault : RecordFault) (d : Data) : Type 0 where
  pub position_is : get (codes "position") d ≡ Some (number_data position)
  pub fault_is : get (codes "fault") d ≡ Some (number_data (fault_number fault))
  pub name : get (codes "name") d ≡ Some (string (fault_name fault))

abbrev pub HasAnswer : List ℕ → Data → Type 0
HasAnswer answer d = get (codes "answer") d ≡ Some (string answer)

-- the verdict where that is the first wrong reply of a transcript that ends so
abbrev pub IsVerdictIn : Option WrongReply → Ending → Data → Type 0
IsVerdictIn (Some wrong) ending d = HasAnswer (codes "no") d × IsWrongIn wrong d
IsVerdictIn None (Broken position fault) d = HasAnswer (codes "malformed") d × IsBreakIn position fault d
IsVerdictIn None Whole d = HasAnswer (codes "yes") d

abbrev pub IsEndIn : Ending → Data → Type 0
IsEndIn Whole d = get (codes "whole") d ≡ Some (boolean true)
IsEndIn (Broken position fault) d = (get (codes "whole") d ≡ Some (boolean false)) × IsBreakIn position fault d

-- ---- what is counted

pub record AreCountsIn (replies : ReplyCounts) (report : Data) : Type 0 where
  pub all : inside (codes "replies") (codes "all") report ≡ Some (number_data (all_of replies))
  pub hits : inside (codes "replies") (codes "hits") report ≡ Some (number_data replies.hits)
  pub forwarded : inside (codes "replies") (codes "forwarded") report ≡ Some (number_data replies.forwarded)
  pub collapsed : inside (codes "replies") (codes "collapsed") report ≡ Some (number_data replies.collapsed)
  pub unmarked : inside (codes "replies") (codes "unmarked") report ≡ Some (number_data replies.unmarked)
  pub both : inside (codes "replies") (codes "both") report ≡ Some (number_data replies.both)
  pub hit_octets : inside (codes "octets") (codes "hits") report ≡ Some (number_data replies.hit_octets)
  pub forwarded_octets : inside (codes "octets") (codes "forwarded") report ≡ Some (number_data replies.forwarded_octets)
  pub judged : get (codes "judged") report ≡ Some (number_data (judged_of replies))
  pub warning : get (codes "warning") report ≡ Some (warning_data replies)

-- ---- the wrong replies

-- one that is listed, with what is shown of the request that it answers
pub record IsListedIn (reply : ListedReply) (d : Data) : Type 0 where
  pub wrong : IsWrongIn reply.wrong d
  pub method : get (codes "method") d ≡ Some (string (string_bytes reply.request.method))
  pub target : get (codes "target") d ≡ Some (string (string_bytes reply.request.target))

-- each of these, in order, and no others
abbrev pub AreListedIn : List ListedReply → Items → Type 0
AreListedIn [] no_items = Unit {0}
AreListedIn [] (item d items) = ⊥
AreListedIn (reply ∷ replies) no_items = ⊥
AreListedIn (reply ∷ replies) (item d items) = IsListedIn reply d × AreListedIn replies items

-- how many there are, those that are listed, and how many aren't
pub record AreWrongIn (wrongs : ListedReplies) (report : Data) : Type 0 where
  pub count : inside (codes "wrong") (codes "count") report ≡ Some (number_data wrongs.count)
  pub items : Items
  pub listed : inside (codes "wrong") (codes "listed") report ≡ Some (array items)
  pub are : AreListedIn wrongs.listed.items items
  pub unlisted : inside (codes "wrong") (codes "unlisted") report ≡ Some (number_data (wrongs.count - length wrongs.listed.items))

-- ---- all of it

-- the report on a transcript that ends so: so much was counted of its replies and of its records, and these are wrong
pub record IsReportIn (wrongs : ListedReplies) (replies : ReplyCounts) (ending : Ending) (counts : Option Counts) (report : Data) : Type 0 where
  pub verdict : Data
  pub has_verdict : get (codes "verdict") report ≡ Some verdict
  pub is_verdict : IsVerdictIn wrongs.first ending verdict
  pub end : Data
  pub has_end : get (codes "ends") report ≡ Some end
  pub is_end : IsEndIn ending end
  pub records : get (codes "records") report ≡ Some (some_data (option_map (λ c. c.records) counts))
  pub are_counts : AreCountsIn replies report
  pub are_wrong : AreWrongIn wrongs report

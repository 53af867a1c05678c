-- The values by which a report says in JSON what it counts and lists.
use Rattle.std.specs.Prelude.{ℕ, ◌-◌, true, false, List, [], ◌∷◌, ◌++◌, Option, None, Some, codes, if◌then◌else◌, length, map, string_bytes}
use Rattle.serde_json.specs.Data.{Data, array, null, string}
use Rattle.serde_json.specs.View.{items_of}
use Rattle.hc_figures.specs.Entries.{Entry, flag_at, number_at, object_with, text_at}
use Rattle.hc_transcript.specs.declared.fault.RecordFault.{RecordFault}
use Rattle.hc_transcript.specs.Names.{fault_name, fault_number}
use Rattle.hc_history.specs.declared.wrong.Ending.{Ending}
use Rattle.hc_history.specs.declared.wrong.Ending.TheVariants.{Whole, Broken}
use Rattle.hc_history.specs.declared.wrong.WrongReply.{WrongReply}
use Rattle.hc_history.specs.Names.{reason_name, reason_number}
use Rattle.hc_figures.specs.declared.counts.ReplyCounts.{ReplyCounts}
use Rattle.hc_figures.specs.declared.json.TheConstants.{NO_MARK}
use Rattle.hc_figures.specs.declared.listed.ListedReplies.{ListedReplies}
use Rattle.hc_figures.specs.declared.listed.ListedReply.{ListedReply}
use Rattle.hc_figures.specs.Counts.{all_of, have_no_mark}

-- ---- a wrong reply, and a break

abbrev pub wrong_entries : WrongReply → List Entry
wrong_entries wrong =
    number_at (codes "position") wrong.position ∷ number_at (codes "reason") (reason_number wrong.reason) ∷ text_at (codes "name") (reason_name wrong.reason) ∷ []

abbrev pub break_entries : ℕ → RecordFault → List Entry
break_entries position fault =
    number_at (codes "position") position ∷ number_at (codes "fault") (fault_number fault) ∷ text_at (codes "name") (fault_name fault) ∷ []

-- ---- the verdict, where that is the first wrong reply, and how the transcript ends

abbrev pub verdict_entries : Option WrongReply → Ending → List Entry
verdict_entries (Some wrong) ending = text_at (codes "answer") (codes "no") ∷ wrong_entries wrong
verdict_entries None (Broken position fault) = text_at (codes "answer") (codes "malformed") ∷ break_entries position fault
verdict_entries None Whole = text_at (codes "answer") (codes "yes") ∷ []

abbrev pub end_entries : Ending → List Entry
end_entries Whole = flag_at (codes "whole") true ∷ []
end_entries (Broken position fault) = flag_at (codes "whole") false ∷ break_entries position fault

-- ---- what is counted of the replies

abbrev pub reply_entries : ReplyCounts → List Entry
reply_entries counts =
    number_at (codes "all") (all_of counts) ∷ number_at (codes "hits") counts.hits ∷ number_at (codes "forwarded") counts.forwarded
    ∷ number_at (codes "collapsed") counts.collapsed ∷ number_at (codes "unmarked") counts.unmarked ∷ number_at (codes "both") counts.both ∷ []

abbrev pub octet_entries : ReplyCounts → List Entry
octet_entries counts = number_at (codes "hits") counts.hit_octets ∷ number_at (codes "forwarded") counts.forwarded_octets ∷ []

abbrev pub warning_data : ReplyCounts → Data
warning_data counts = if have_no_mark counts then string NO_MARK.now else null

-- ---- the wrong replies

-- one that is listed, with what is shown of its request
abbrev pub listed_entries : ListedReply → List Entry
listed_entries reply =
    wrong_entries reply.wrong ++ text_at (codes "method") (string_bytes reply.request.method) ∷ text_at (codes "target") (string_bytes reply.request.target) ∷ []

abbrev pub listed_data : ListedReply → Data
listed_data reply = object_with (listed_entries reply)

-- how many there are, those that are listed, in order, and how many aren't
abbrev pub wrongs_entries : ListedReplies → List Entry
wrongs_entries wrongs =
    number_at (codes "count") wrongs.count ∷ (codes "listed", array (items_of (map listed_data wrongs.listed.items)))
    ∷ number_at (codes "unlisted") (wrongs.count - length wrongs.listed.items) ∷ []

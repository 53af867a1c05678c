-- What the client's side of a connection tells of what passed.
use Rattle.std.specs.Prelude.{◌≡◌, ℕ, ◌+◌, ◌≤◌, Bool, true, false, List, Some, None, if◌then◌else◌, min}
use Rattle.hc_service.specs.declared.event.Happening.TheVariants.{ClientOpened}
use Rattle.hc_connection.specs.declared.client_side.ClientSide.{ClientSide}
use Rattle.hc_service.specs.Numbers.{is_later}
use Rattle.hc_order.specs.declared.occurrence.Reason.{Reason}
use Rattle.hc_order.specs.Mirrors.{last_opened}
use Rattle.hc_links.specs.Links.{CountsFailure, IsBeginning}
use Rattle.hc_connection.specs.Moves.{AreOf, EndsFor, HaveReasons, ReadsFew, ReadsInTime, client_reads_in, failures_before, first_in, given_in, is_closed_in, is_ended_in, is_of_reads, is_spent_in, most_reads, origin_reads_in, reads_before, replies_in, sent_in}
use Rattle.hc_order.specs.Log.{Move}

-- its link's failures: none where it works, else one more, as far as can be counted
abbrev pub CountsFailed : Bool → ℕ → ℕ → Type 0
CountsFailed false before after = after ≡ before
CountsFailed true before after = CountsFailure before after

-- a link was read so often since, which is at least as often as octets of it came; with the reads of others, and so many that are still to come, that is no more than was counted
pub record CountsReads {C : Type 0} (was_read : C → ℕ → Type 0) (link : C) (before came others spare counted : ℕ) : Type 0 where
  pub since : ℕ
  pub was : was_read link (since + before)
  pub all : came ≤ since
  pub within : (since + others) + spare ≤ counted

-- so many replies are counted at the most
abbrev pub most_counted : ℕ
most_counted = 4294967295

-- what passed at its link is what the log says, nothing happened to other clients, and the bounds were kept, also by so many reads more
pub record TellsSparing {C : Type 0} (has_given has_got : C → List ℕ → Type 0) (was_read : C → ℕ → Type 0) (count : C → ℕ) (spare : ℕ) (side : ClientSide C) (log : List Move) : Type 0 where
  pub own : AreOf side.number log
  pub given : has_given side.link (given_in log)
  -- what was written is a beginning of what was sent, and all of it unless the link has failed
  pub got : List ℕ
  pub has_it : has_got side.link got
  pub begins : IsBeginning got (sent_in side.number log)
  pub whole : side.failed ≡ false → got ≡ sent_in side.number log
  pub counted : CountsFailed side.failed (failures_before log) (count side.link)
  pub replies : side.replies ≡ min (replies_in side.number log) most_counted
  -- its link's reads, and those of origins that brought octets or an end
  pub reads : CountsReads was_read side.link (reads_before log) (client_reads_in log) (origin_reads_in log) spare side.reads
  pub few : side.reads ≤ most_reads
  -- where something was told since no link is read any more, none are left
  pub spent : is_spent_in log ≡ true → spare + most_reads ≤ side.reads
  pub closed : side.closed ≡ is_closed_in side.number log
  pub ended : side.ended ≡ is_ended_in side.number log
  pub in_time : ReadsInTime side.number log
  pub short : ReadsFew log
  pub reasons : HaveReasons side.number log

abbrev pub Tells : {C : Type 0} → (C → List ℕ → Type 0) → (C → List ℕ → Type 0) → (C → ℕ → Type 0) → (C → ℕ) → ClientSide C → List Move → Type 0
Tells has_given has_got was_read count side log = TellsSparing has_given has_got was_read count 0 side log

-- once the cache was told that the client opened its connection, that is what happened first; before, nothing has happened, and its number is greater than that of the connection before
abbrev pub Opens : Bool → ℕ → List Move → Type 0
Opens true c log = first_in log ≡ Some (ClientOpened c)
Opens false c log = (first_in log ≡ None) × (is_later c (last_opened log) ≡ true)

-- the client's end may be told for that reason; where that is that no link is read any more, no reads are left
abbrev pub MayEndFor : {C : Type 0} → ClientSide C → Reason → List Move → Type 0
MayEndFor side reason log = EndsFor side.number reason log × (is_of_reads reason ≡ true → most_reads ≤ side.reads)

-- ---- what rests

-- nothing more is heard of the client: the cache was told that it sends no more, or has closed its connection
abbrev pub is_heard_out : {C : Type 0} → ClientSide C → Bool
is_heard_out side = if side.ended then true else side.closed

-- nothing more happens at a connection: that it was opened was told, no forward is open, and nothing more is heard of the client
abbrev pub Rests : {C : Type 0} → Bool → ℕ → ClientSide C → Type 0
Rests opened forwards side = (opened ≡ true) × (forwards ≡ 0) × (is_heard_out side ≡ true)

-- nothing has happened of a connection yet: no event, and neither has its client ended nor was it closed
pub record IsUntouched (c : ℕ) (log : List Move) : Type 0 where
  pub first : first_in log ≡ None
  pub ended : is_ended_in c log ≡ false
  pub closed : is_closed_in c log ≡ false

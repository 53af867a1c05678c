-- What a reply says of itself (RFC 9211), as the auditor takes it.
use Rattle.std.specs.Prelude.{ℕ, Bool, true, false, ◌&&◌, ◌||◌, ◌==◌, not, nat_lt, List, Option, Some, None, if◌then◌else◌}
use Rattle.hc_head.specs.declared.head.ResponseHead.{ResponseHead}
use Rattle.hc_framing.specs.declared.message.Message.{Message}
use Rattle.hc_status.specs.declared.marks.Mark.{Mark}
use Rattle.hc_status.specs.declared.marks.Mark.TheVariants.{Hit, Forwarded, Both, Unmarked}
use Rattle.hc_status.specs.Marks.{mark_of}
use Rattle.hc_head.specs.Statuses.{partial_content}
use Rattle.hc_transcript.specs.declared.format.Format.{Format}
use Rattle.hc_transcript.specs.declared.format.Format.TheVariants.{First, Second}
use Rattle.hc_transcript.specs.Items.{Item, ClientReply, Exchange}
use Rattle.hc_transcript.specs.History.{exchange_of}
use Rattle.hc_history.specs.declared.allowed.Allowed.{Allowed}
use Rattle.hc_history.specs.declared.settings.Settings.{Settings}
use Rattle.hc_history.specs.Windows.{has_forward}

-- the mark by which a reply of that status is judged: reuse of a part isn't judged, so a hit of a part counts as unmarked (this project's own choice)
abbrev pub judged_mark : ℕ → Mark → Mark
judged_mark status (Hit ttl) = if status == partial_content then Unmarked else Hit ttl
judged_mark status mark = mark

-- the mark of a reply
abbrev pub reply_mark : Message ResponseHead → Mark
reply_mark reply = judged_mark reply.head.status (mark_of reply.head.fields)

-- ---- marks that are inferred, where the settings ask for that (no cache has to write one: RFC 9211 section 2)

-- whether a format tells for which exchange a forward was made
abbrev pub tells_causes : Format → Bool
tells_causes First = false
tells_causes Second = true

-- whether a mark says nothing
abbrev pub says_nothing : Mark → Bool
says_nothing Unmarked = true
says_nothing (Hit ttl) = false
says_nothing (Forwarded collapsed) = false
says_nothing Both = false

-- whether the mark of a reply is inferred, in whose window a forward stands that was made for its exchange (true), or none does: of one that says nothing of
-- itself, of a status under 400. A part for which nothing went forward stays unmarked
abbrev pub infers : Format → Allowed → Bool → Message ResponseHead → Bool
infers format allowed forwarded reply =
    allowed.inferred_marks && tells_causes format && says_nothing (mark_of reply.head.fields)
    && nat_lt reply.head.status 400 && (forwarded || not (reply.head.status == partial_content))

-- that mark: it went forward, or is a hit without seconds
abbrev pub inferred_mark : Bool → Mark
inferred_mark true = Forwarded false
inferred_mark false = Hit None

-- the mark by which a reply is judged and counted: its own, or the one that is inferred
abbrev pub mark_by : Format → Allowed → Bool → Message ResponseHead → Mark
mark_by format allowed forwarded reply = if infers format allowed forwarded reply then inferred_mark forwarded else reply_mark reply

-- ---- of a history

module _ (format : Format) (settings : Settings) where
  -- the same of a reply to the exchange that it answers
  abbrev pub mark_to : Option Exchange → Message ResponseHead → List Item → Mark
  mark_to None reply h = reply_mark reply
  mark_to (Some exchange) reply h = mark_by format settings.allowed (has_forward exchange h) reply

  -- the mark of the next item, if it is a reply
  abbrev pub item_mark : List Item → Item → Option Mark
  item_mark h (ClientReply number moment reply) = Some (mark_to (exchange_of number h) reply h)
  item_mark h item = None

-- Which replies are right, and why the others are wrong.
use Rattle.std.specs.Prelude.{◌≡◌, ℕ, Bool, true, false, nat_le, ◌⊎◌, List, [], ◌∷◌, Option, Some, None}
use Rattle.hc_head.specs.declared.head.ResponseHead.{ResponseHead}
use Rattle.hc_framing.specs.declared.message.Message.{Message}
use Rattle.hc_status.specs.declared.marks.Mark.{Mark}
use Rattle.hc_status.specs.declared.marks.Mark.TheVariants.{Hit, Forwarded, Both, Unmarked}
use Rattle.hc_transcript.specs.declared.format.Format.{Format}
use Rattle.hc_transcript.specs.declared.format.Format.TheVariants.{First, Second}
use Rattle.hc_transcript.specs.Items.{Item, ClientReply, Exchange}
use Rattle.hc_transcript.specs.History.{exchange_of}
use Rattle.hc_history.specs.declared.reasons.Reason.{Reason}
use Rattle.hc_history.specs.declared.reasons.Reason.TheVariants as reason
use Rattle.hc_history.specs.declared.settings.UnmarkedReplies.{UnmarkedReplies}
use Rattle.hc_history.specs.declared.settings.UnmarkedReplies.TheVariants.{Allow, ErrorsOnly}
use Rattle.hc_history.specs.declared.settings.Settings.{Settings}
use Rattle.hc_history.specs.declared.verdicts.Finding.{Finding}
use Rattle.hc_history.specs.declared.verdicts.Finding.TheVariants as finding
use Rattle.hc_history.specs.Names.{reason_number}
use Rattle.hc_history.specs.Marks.{mark_to}
use Rattle.hc_history.specs.Claims.{Claim, claim_of}
use Rattle.hc_history.specs.declared.among.Among.TheVariants.{Any, Recent}
use Rattle.hc_history.specs.Reused.{Pass, IsReused, IsCollapsible, IsFirstFailed, forwarded_count}
use Rattle.hc_history.specs.Forwarded.{is_forwarded}

-- whether a reply of that status may be unmarked
abbrev pub allows_unmarked : UnmarkedReplies → ℕ → Bool
allows_unmarked Allow status = true
allows_unmarked ErrorsOnly status = nat_le 400 status

-- whether a reply that is marked as collapsed, or not, is judged as collapsed (RFC 9211 section 2.6): in the second format. The first doesn't tell for whom a
-- forward was made, so there the word is passed over
abbrev pub is_judged_collapsed : Format → Bool → Bool
is_judged_collapsed First collapsed = false
is_judged_collapsed Second collapsed = collapsed

-- a reply that went forward carries a stored response in place of what the origin answered, where its mark is inferred (true) and where it isn't. One that says
-- that it went forward needs no right Age. One that says nothing is either reused, or is a response that came, or was validated, in its window
abbrev pub CarriesStored : Bool → Claim → List Item → Type 0
CarriesStored false claim h = Pass forwarded_count Any claim h
CarriesStored true claim h = IsReused claim h ⊎ Pass forwarded_count Recent claim h

-- a reply that went forward is right, where it is judged as collapsed (true) and where it isn't: a collapsed one carries a response that came in its window;
-- another one what the origin answered to a forward of its own, or a stored response in its place
abbrev pub IsRightForwarded : Bool → Claim → List Item → Type 0
IsRightForwarded true claim h = IsCollapsible claim h
IsRightForwarded false claim h = (is_forwarded claim h ≡ true) ⊎ CarriesStored claim.is_inferred claim h

-- it is wrong by that reason, likewise
abbrev pub IsWrongForwarded : Bool → Claim → List Item → Reason → Type 0
IsWrongForwarded true claim h why = (why ≡ reason.NotCollapsible) × ¬ (IsCollapsible claim h)
IsWrongForwarded false claim h why = (why ≡ reason.NotForwarded) × ((is_forwarded claim h ≡ false) × ¬ (CarriesStored claim.is_inferred claim h))

-- a reply with that mark is right: a hit is reused; one without a mark is right where the settings allow it; one with both marks is never right
abbrev pub IsRightBy : Mark → Claim → List Item → Type 0
IsRightBy (Hit ttl) claim h = IsReused claim h
IsRightBy (Forwarded collapsed) claim h = IsRightForwarded (is_judged_collapsed claim.format collapsed) claim h
IsRightBy Both claim h = ⊥
IsRightBy Unmarked claim h = allows_unmarked claim.settings.unmarked claim.reply.head.status ≡ true

-- a reply with that mark is wrong by that reason: a hit by the first filter that leaves nobody
abbrev pub IsWrongBy : Mark → Claim → List Item → Reason → Type 0
IsWrongBy (Hit ttl) claim h why = IsFirstFailed (reason_number why) claim h
IsWrongBy (Forwarded collapsed) claim h why = IsWrongForwarded (is_judged_collapsed claim.format collapsed) claim h why
IsWrongBy Both claim h why = why ≡ reason.BothMarks
IsWrongBy Unmarked claim h why = (why ≡ reason.Unmarked) × (allows_unmarked claim.settings.unmarked claim.reply.head.status ≡ false)

-- what is found of a reply that went forward
abbrev pub IsFoundForwarded : Bool → Claim → List Item → Finding → Type 0
IsFoundForwarded collapsed claim h finding.Right = IsRightForwarded collapsed claim h
IsFoundForwarded collapsed claim h (finding.Wrong why) = IsWrongForwarded collapsed claim h why

-- what is found of a reply with that mark
abbrev pub IsFoundBy : Mark → Claim → List Item → Finding → Type 0
IsFoundBy mark claim h finding.Right = IsRightBy mark claim h
IsFoundBy mark claim h (finding.Wrong why) = IsWrongBy mark claim h why

module _ (format : Format) (settings : Settings) where
  -- the same of a reply to the exchange that it answers, by its mark, or by the one that is inferred
  abbrev pub IsRightTo : Option Exchange → ℕ → Message ResponseHead → List Item → Type 0
  IsRightTo None moment reply h = ⊥
  IsRightTo (Some exchange) moment reply h = IsRightBy (mark_to format settings (Some exchange) reply h) (claim_of format settings exchange moment reply h) h

  abbrev pub IsWrongTo : Option Exchange → ℕ → Message ResponseHead → List Item → Reason → Type 0
  IsWrongTo None moment reply h why = ⊥
  IsWrongTo (Some exchange) moment reply h why = IsWrongBy (mark_to format settings (Some exchange) reply h) (claim_of format settings exchange moment reply h) h why

  -- the next item, if it is a reply, is right
  abbrev pub IsRight : List Item → Item → Type 0
  IsRight h (ClientReply number moment reply) = IsRightTo (exchange_of number h) moment reply h
  IsRight h item = Unit {0}

  -- the next item is a reply, and wrong by that reason
  abbrev pub IsWrong : List Item → Item → Reason → Type 0
  IsWrong h (ClientReply number moment reply) why = IsWrongTo (exchange_of number h) moment reply h why
  IsWrong h item why = ⊥

  -- what is found of a reply to the exchange that it answers; of one to what isn't open, which no transcript has, anything
  abbrev pub IsFinding : Option Exchange → ℕ → Message ResponseHead → List Item → Finding → Type 0
  IsFinding None moment reply h found = Unit {0}
  IsFinding (Some exchange) moment reply h found = IsFoundBy (mark_to format settings (Some exchange) reply h) (claim_of format settings exchange moment reply h) h found

  -- every reply of the history is right
  abbrev pub AllRight : List Item → Type 0
  AllRight [] = Unit {0}
  AllRight (item ∷ h) = AllRight h × IsRight h item

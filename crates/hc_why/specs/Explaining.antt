-- What is known of a reply that is explained.
use Rattle.std.specs.Prelude.{◌≡◌, ⊤, ℕ, Bool, true, false, ◌||◌, not, codes, List, Option, Some, None, IfSome, IsSome, is_some, option_copied, if◌then◌else◌, ◌⊎◌}
use Rattle.std.specs.Option.{option_map}
use Rattle.hc_framing.specs.declared.message.Message.{Message}
use Rattle.hc_head.specs.declared.head.ResponseHead.{ResponseHead}
use Rattle.hc_status.specs.declared.marks.Mark.{Mark}
use Rattle.hc_status.specs.declared.marks.Mark.TheVariants as mark
use Rattle.hc_transcript.specs.declared.format.Format.{Format}
use Rattle.hc_transcript.specs.History.{exchange_of}
use Rattle.hc_transcript.specs.Items.{ClientReply, Item}
use Rattle.hc_history.specs.declared.settings.Settings.{Settings}
use Rattle.hc_history.specs.declared.verdicts.Finding.{Finding}
use Rattle.hc_history.specs.declared.verdicts.Finding.TheVariants.{Right, Wrong}
use Rattle.hc_history.specs.Claims.{Claim, claim_of}
use Rattle.hc_history.specs.Right.{IsFinding, is_judged_collapsed}
use Rattle.hc_audit.specs.declared.witness.JudgedReply.{JudgedReply}
use Rattle.hc_gaps.specs.declared.differing.Differences.{Differences}
use Rattle.hc_use.specs.declared.permits.StaleUse.{StaleUse}
use Rattle.hc_use.specs.declared.rules.Rule.{Rule}
use Rattle.hc_use.specs.declared.rules.Rule.TheVariants as rule
use Rattle.hc_use.specs.declared.stale.Setting.{Setting}
use Rattle.hc_gaps.specs.Differing.{AreDifferences}
use Rattle.hc_use.specs.Permits.{stale_use_of}
use Rattle.hc_use.specs.Stale.{settings_with}
use Rattle.hc_why.specs.declared.explaining.Explanation.{Explanation}
use Rattle.hc_why.specs.declared.explaining.Way.{Way}
use Rattle.hc_why.specs.declared.found.FoundReply.{FoundReply}
use Rattle.hc_why.specs.declared.explaining.Way.TheVariants.{Hit, Forwarded, Collapsed, Unmarked}
use Rattle.hc_past.specs.declared.shortfalls.Nearest.{Nearest}
use Rattle.hc_why.specs.Due.{name_of_end, place_of_end, told_in_window, told_of}
use Rattle.hc_why.specs.Listing.{Lists}
use Rattle.hc_past.specs.Naming.{HasNone, IsNamed, names_response, reason_told, rule_of, setting_by, shortfall_in}
use Rattle.hc_why.specs.Seeking.{reason_in}

-- ---- the reply

-- a reply that was judged: where it stands, the exchange that it answers, its audit's settings and format, its mark, and what is found of it
pub record Judged : Type 0 where
  pub position : ℕ
  pub exchange : ℕ
  pub moment : ℕ
  pub format : Format
  pub settings : Settings
  pub reply : Message ResponseHead
  pub mark : Mark
  pub finding : Finding

-- the same of one that is handed to a witness
abbrev pub judged_of : {I : Type 0} → JudgedReply I → Judged
judged_of judged = record {
  position = judged.position;
  exchange = judged.exchange;
  moment = judged.moment;
  format = judged.format;
  settings = judged.settings.now;
  reply = judged.reply;
  mark = judged.mark;
  finding = judged.finding;
}

-- the item that it is
abbrev pub item_of_judged : Judged → Item
item_of_judged judged = ClientReply judged.exchange judged.moment judged.reply

-- it stands where a reply was found, and the same is found of it
pub record IsAs (found : FoundReply) (judged : Judged) : Type 0 where
  pub position : judged.position ≡ found.position
  pub finding : judged.finding ≡ found.finding

-- what the reply claims behind these items, by the exchange that it answers and its audit's settings
abbrev pub claim_judged : Judged → List Item → Option Claim
claim_judged judged h =
    option_map (λ opened. claim_of judged.format judged.settings opened judged.moment judged.reply h) (exchange_of judged.exchange h)

-- the way that a reply of that mark went
abbrev pub way_by : Format → Mark → Way
way_by format (mark.Hit ttl) = Hit
way_by format (mark.Forwarded collapsed) = if is_judged_collapsed format collapsed then Collapsed else Forwarded
way_by format mark.Both = Unmarked
way_by format mark.Unmarked = Unmarked

-- the word for it
abbrev pub way_name : Way → List ℕ
way_name Hit = codes "hit"
way_name Forwarded = codes "forwarded"
way_name Collapsed = codes "collapsed"
way_name Unmarked = codes "unmarked"

-- ---- the response that is named

-- the position behind which it stands: that of the request, where the reply was collapsed
abbrev pub named_since : Way → Claim → ℕ
named_since Hit claim = 0
named_since Forwarded claim = 0
named_since Collapsed claim = claim.since
named_since Unmarked claim = 0

-- one may be named of a reply of that finding
abbrev pub names_one : Finding → Bool
names_one Right = true
names_one (Wrong why) = names_response why

-- none is of a right one that went forward and carries what came in its window
abbrev pub carries_other : Finding → Way → Bool → Bool
carries_other Right Forwarded is_carried = is_carried
carries_other found way is_carried = false

abbrev pub carries_answer : Explanation → Bool
carries_answer explanation = carries_other explanation.finding explanation.way (is_some (name_of_end (option_copied explanation.ends.carried)))

-- what is told of it agrees with what is found: a hit is wrong by the rule that it breaks, and right where it breaks none; what went forward, and is wrong, breaks one
abbrev pub AgreesWith : Way → Finding → Nearest → Type 0
AgreesWith Hit finding nearest = reason_told nearest ≡ reason_in finding
AgreesWith Forwarded Right nearest = ⊤
AgreesWith Forwarded (Wrong why) nearest = IsSome nearest.shortfall
AgreesWith Collapsed Right nearest = ⊤
AgreesWith Collapsed (Wrong why) nearest = IsSome nearest.shortfall
AgreesWith Unmarked finding nearest = ⊤

-- ---- how stale it is

-- a response that breaks that rule keeps those on what may be given
abbrev pub keeps_use : Option Rule → Bool
keeps_use None = true
keeps_use (Some rule.Asked) = false
keeps_use (Some rule.Selected) = false
keeps_use (Some rule.Valid) = false
keeps_use (Some rule.Lifetime) = false
keeps_use (Some rule.Use) = false
keeps_use (Some rule.Body) = true
keeps_use (Some rule.Fields) = true
keeps_use (Some rule.Age) = true
keeps_use (Some rule.Ttl) = true

-- how stale the response is that is named, and what permits to give it, where the reply is a hit, and it keeps these
abbrev pub stale_told : Way → Claim → Option Nearest → Option StaleUse
stale_told way claim None = None
stale_told Hit claim (Some nearest) = if keeps_use (option_map rule_of nearest.shortfall) then stale_use_of claim nearest.state.now else None
stale_told Forwarded claim (Some nearest) = None
stale_told Collapsed claim (Some nearest) = None
stale_told Unmarked claim (Some nearest) = None

-- ---- what would be found with a setting

-- an audit with that setting finds that of the reply
abbrev pub IsFoundWith : Judged → List Item → Option Setting → Option Finding → Type 0
IsFoundWith judged h None found = found ≡ None
IsFoundWith judged h (Some setting) None = ⊥
IsFoundWith judged h (Some setting) (Some finding) =
    IsFinding judged.format (settings_with setting judged.settings) (exchange_of judged.exchange h) judged.moment judged.reply h finding

-- ---- what came in place of what is due

-- these are the fields in which the reply differs from the response that is named
abbrev pub AreFieldsOf : Claim → Option Nearest → Option Differences → Type 0
AreFieldsOf claim nearest None = ⊤
AreFieldsOf claim None (Some found) = ⊥
AreFieldsOf claim (Some nearest) (Some found) = AreDifferences claim nearest.state.now found

-- ---- all of it

-- it is of that reply: of its position, its finding, its claim and its way. The response that is named is named so, and agrees with the finding; none is named where none
-- stands there, the finding is of none, or the reply carries what came in its window. How stale it is, what would be found with its setting, the fields in which the
-- reply differs from it, and the ends of forwards that are listed, are so
pub record Explains (judged : Judged) (h : List Item) (explanation : Explanation) : Type 0 where
  pub position : explanation.position ≡ judged.position
  pub finding : explanation.finding ≡ judged.finding
  pub claim : claim_judged judged h ≡ Some explanation.claim
  pub way : explanation.way ≡ way_by explanation.claim.format judged.mark
  pub named : IfSome explanation.nearest (IsNamed explanation.claim h (named_since explanation.way explanation.claim))
  pub agrees : IfSome explanation.nearest (AgreesWith explanation.way explanation.finding)
  pub unnamed : explanation.nearest ≡ None → HasNone explanation.claim h (named_since explanation.way explanation.claim)
      ⊎ ((not (names_one explanation.finding) || carries_answer explanation) ≡ true)
  pub stale : explanation.stale ≡ stale_told explanation.way explanation.claim explanation.nearest
  pub with_setting : IsFoundWith judged h (setting_by (shortfall_in explanation.nearest)) explanation.with_setting
  pub came : AreFieldsOf explanation.claim explanation.nearest explanation.came
  pub lists : IfSome explanation.nearest (λ nearest. Lists explanation.claim (Some nearest) explanation.ends)

-- what it tells of the window is so: the latest that the reply carries, the latest error and the latest failure there, and what was due
abbrev pub TellsWindow : List Item → Explanation → Type 0
TellsWindow h explanation = told_of explanation.ends ≡ told_in_window explanation.claim h

-- the end by which it says that the response that it names was validated last is that by which the items did so
abbrev pub TellsValidator : Explanation → Type 0
TellsValidator explanation =
    IfSome explanation.nearest (λ nearest. place_of_end (option_copied explanation.ends.validator) ≡ nearest.state.now.validated_at)

-- ---- while it is filled

-- it is of the same reply still, and rests on the same records
pub record Leaves (old new : Explanation) : Type 0 where
  pub position : new.position ≡ old.position
  pub finding : new.finding ≡ old.finding
  pub claim : new.claim ≡ old.claim
  pub way : new.way ≡ old.way
  pub past : new.past ≡ old.past

-- it names the same response, and says the same of a setting
pub record Names (old new : Explanation) : Type 0 where
  pub leaves : Leaves old new
  pub named : new.nearest ≡ old.nearest
  pub with_setting : new.with_setting ≡ old.with_setting

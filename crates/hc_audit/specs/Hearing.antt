-- What a witness is handed of a record.
use Rattle.std.specs.Prelude.{◌≡◌, Bool, true, false, List, IsSome}
use Rattle.hc_transcript.specs.Items.{Item, ClientReply, ClientRequest, OriginFailure, OriginRequest, OriginResponse}
use Rattle.hc_transcript.specs.History.{next_position, exchange_of}
use Rattle.hc_history.specs.Marks.{mark_to}
use Rattle.hc_history.specs.Right.{IsFinding}
use Rattle.hc_history.specs.Seen.{Seen, IsSeenAs}
use Rattle.hc_audit.specs.declared.witness.JudgedReply.{JudgedReply}
use Rattle.hc_audit.specs.declared.witness.PassedRecord.{PassedRecord}

-- the item that it is
abbrev pub item_judged : {I : Type 0} → JudgedReply I → Item
item_judged judged = ClientReply judged.exchange judged.moment judged.reply

abbrev pub item_passed : {I : Type 0} → PassedRecord I → Item
item_passed passed = passed.item.now

-- it is a reply
abbrev pub is_reply : Item → Bool
is_reply (ClientRequest number moment request target) = false
is_reply (OriginRequest number moment request target cause) = false
is_reply (OriginResponse number moment response) = false
is_reply (OriginFailure number moment) = false
is_reply (ClientReply number moment reply) = true

module _ {I : Type 0} (seen : I → Seen) where
  -- the reply stands behind these items: its position is the next one, its index knows them, its exchange is open, and by the settings it has that mark, and that is found of it
  pub record IsReplyBehind (h : List Item) (judged : JudgedReply I) : Type 0 where
    pub position : judged.position ≡ next_position h
    pub index : IsSeenAs judged.format (seen judged.index.now) h
    pub is_open : IsSome (exchange_of judged.exchange h)
    pub mark : judged.mark ≡ mark_to judged.format judged.settings.now (exchange_of judged.exchange h) judged.reply h
    pub found : IsFinding judged.format judged.settings.now (exchange_of judged.exchange h) judged.moment judged.reply h judged.finding

  -- the record stands behind them, and is no reply: its position is the next one, and its index knows them
  pub record IsRecordBehind (h : List Item) (passed : PassedRecord I) : Type 0 where
    pub position : passed.position ≡ next_position h
    pub index : IsSeenAs passed.format (seen passed.index.now) h
    pub is_no_reply : is_reply (item_passed passed) ≡ false

-- What a reply claims: what it says of itself, and what it is held against.
use Rattle.std.specs.Prelude.{ℕ, Bool, ℤ, List, Option, None}
use Rattle.hc_head.specs.declared.head.RequestHead.{RequestHead}
use Rattle.hc_head.specs.declared.head.ResponseHead.{ResponseHead}
use Rattle.hc_head.specs.declared.head.Target.{Target}
use Rattle.hc_head.specs.Methods.{is_head}
use Rattle.hc_framing.specs.declared.message.Message.{Message}
use Rattle.hc_status.specs.declared.marks.Mark.{Mark}
use Rattle.hc_status.specs.declared.marks.Mark.TheVariants.{Hit}
use Rattle.hc_transcript.specs.declared.format.Format.{Format}
use Rattle.hc_transcript.specs.Items.{Item, Exchange}
use Rattle.hc_history.specs.declared.settings.Settings.{Settings}
use Rattle.hc_history.specs.Marks.{infers, reply_mark}
use Rattle.hc_history.specs.Windows.{some_since, has_forward, is_error, is_failure}

pub record Claim : Type 0 where
  -- the format of the transcript
  pub format : Format
  -- the number of the exchange; the request, its target and its position, after which the window begins
  pub exchange : ℕ
  pub request : RequestHead
  pub target : Target
  pub since : ℕ
  -- the reply, its moment, and whether the mark by which it is judged is inferred
  pub reply : Message ResponseHead
  pub moment : ℕ
  pub is_inferred : Bool
  -- the seconds for which it says that it is fresh still, negative where it is stale
  pub ttl : Option ℤ
  -- whether an error, and whether a failure, of a forward of the target stands in the window
  pub has_error : Bool
  pub has_failure : Bool
  pub settings : Settings

-- the seconds of a hit (RFC 9211 section 2.4)
abbrev pub ttl_of : Mark → Option ℤ
ttl_of (Hit ttl) = ttl
ttl_of mark = None

-- what a reply to an open exchange claims after a history
abbrev pub claim_of : Format → Settings → Exchange → ℕ → Message ResponseHead → List Item → Claim
claim_of format settings exchange moment reply h = record {
  format = format;
  exchange = exchange.number;
  request = exchange.request;
  target = exchange.target;
  since = exchange.position;
  reply = reply;
  moment = moment;
  is_inferred = infers format settings.allowed (has_forward exchange h) reply;
  ttl = ttl_of (reply_mark reply);
  has_error = some_since (is_error exchange.target) exchange.position h;
  has_failure = some_since (is_failure exchange.target) exchange.position h;
  settings = settings;
}

-- whether the request is HEAD
abbrev pub asks_head : Claim → Bool
asks_head claim = is_head claim.request.method

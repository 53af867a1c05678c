-- A reply of a transcript answers what is open, so that what is found of it says whether it is right.
use Rattle.std.proofs.Common.{◌≡◌, ℕ, Bool, true, List, Option, Some, None, Ok, Err, is_some, refl, sym, subst}
use Rattle.std.specs.Prelude.{IsSome, IfOk, Result}
use Rattle.std.specs.declared.alloc.AllocError.{AllocError}
use Rattle.hc_head.specs.declared.head.RequestHead.{RequestHead}
use Rattle.hc_head.specs.declared.head.ResponseHead.{ResponseHead}
use Rattle.hc_head.specs.declared.head.Target.{Target}
use Rattle.hc_framing.specs.declared.message.Message.{Message}
use Rattle.hc_status.specs.declared.marks.Mark.TheVariants.{Forwarded}
use Rattle.hc_transcript.specs.declared.format.Format.{Format}
use Rattle.hc_transcript.specs.declared.line.Kind.{Kind}
use Rattle.hc_transcript.specs.declared.line.Kind.TheVariants as kind
use Rattle.hc_transcript.specs.declared.line.Line.{Line}
use Rattle.hc_transcript.specs.declared.line.ToldCause.{ToldCause}
use Rattle.hc_transcript.specs.declared.record.Record.{Record}
use Rattle.hc_transcript.specs.Records.{exchange_told, line_of, message_of}
use Rattle.hc_transcript.specs.Items.{Item, ClientRequest, OriginRequest, OriginResponse, OriginFailure, ClientReply, Exchange}
use Rattle.hc_transcript.specs.History.{exchange_of, forward_of}
use Rattle.hc_transcript.specs.Checks.{answers_open, line_fault}
use Rattle.hc_transcript.specs.Transcript.{IsItemOf, is_to_head, Follows}
use Rattle.hc_transcript.proofs.CheckLemmas.{order_after}
use Rattle.hc_history.specs.declared.reasons.Reason.{Reason}
use Rattle.hc_history.specs.declared.settings.Settings.{Settings}
use Rattle.hc_history.specs.declared.verdicts.Finding.{Finding}
use Rattle.hc_history.specs.declared.verdicts.Finding.TheVariants.{Right, Wrong}
use Rattle.hc_history.specs.Claims.{Claim}
use Rattle.hc_history.specs.Right.{IsRightTo, IsWrongTo, IsRight, IsWrong, IsFinding, IsFoundBy, IsFoundForwarded, is_judged_collapsed}
use Rattle.hc_history.specs.Found.{IsFound, AnswersOpen}

-- ---- what is found of a reply that went forward is found of its mark

found_by_mark : (collapsed : Bool) (claim : Claim) (h : List Item) (found : Finding)
    → IsFoundForwarded (is_judged_collapsed claim.format collapsed) claim h found → IsFoundBy (Forwarded collapsed) claim h found
found_by_mark collapsed claim h Right is = is
found_by_mark collapsed claim h (Wrong why) is = is

pub found_forwarded : (collapsed judged : Bool) (claim : Claim) (h : List Item) (found : Result Finding AllocError) → is_judged_collapsed claim.format collapsed ≡ judged
    → IfOk found (IsFoundForwarded judged claim h) → IfOk found (IsFoundBy (Forwarded collapsed) claim h)
found_forwarded collapsed judged claim h (Ok found) is by =
    found_by_mark collapsed claim h found (subst (λ (b : Bool). IsFoundForwarded b claim h found) (sym is) by)
found_forwarded collapsed judged claim h (Err fault) is by = tt

-- ---- what is found of a reply to what is open

right_to : (format : Format) (settings : Settings) (o : Option Exchange) (moment : ℕ) (reply : Message ResponseHead) (h : List Item) → IsSome o
    → IsFinding format settings o moment reply h Right → IsRightTo format settings o moment reply h
right_to format settings None moment reply h some is = cc
right_to format settings (Some exchange) moment reply h some is = is

wrong_to : (format : Format) (settings : Settings) (o : Option Exchange) (moment : ℕ) (reply : Message ResponseHead) (h : List Item) (why : Reason) → IsSome o
    → IsFinding format settings o moment reply h (Wrong why) → IsWrongTo format settings o moment reply h why
wrong_to format settings None moment reply h why some is = cc
wrong_to format settings (Some exchange) moment reply h why some is = is

pub found_right : (format : Format) (settings : Settings) (h : List Item) (item : Item) → AnswersOpen h item → IsFound format settings h item Right → IsRight format settings h item
found_right format settings h (ClientReply number moment reply) opens is = right_to format settings (exchange_of number h) moment reply h opens is
found_right format settings h item opens is = tt

pub found_wrong : (format : Format) (settings : Settings) (h : List Item) (item : Item) (why : Reason) → AnswersOpen h item → IsFound format settings h item (Wrong why) → IsWrong format settings h item why
found_wrong format settings h (ClientReply number moment reply) why opens is = wrong_to format settings (exchange_of number h) moment reply h why opens is
found_wrong format settings h item why opens is = cc

-- ---- a reply of a transcript

is_there : {A : Type 0} (o : Option A) → is_some o ≡ true → IsSome o
is_there (Some a) e = e
is_there None e = cc

no_client_request : (n m a b : ℕ) (reply : Message ResponseHead) (request : Message RequestHead) (target : Target) → ClientReply n m reply ≡ ClientRequest a b request target → ⊥
no_client_request n m a b reply request target e = cc

no_origin_request : (n m a b : ℕ) (reply : Message ResponseHead) (request : Message RequestHead) (target : Target) (cause : Option ℕ) → ClientReply n m reply ≡ OriginRequest a b request target cause → ⊥
no_origin_request n m a b reply request target cause e = cc

no_response : (n m a b : ℕ) (reply response : Message ResponseHead) → ClientReply n m reply ≡ OriginResponse a b response → ⊥
no_response n m a b reply response e = cc

no_failure : (n m a b : ℕ) (reply : Message ResponseHead) → ClientReply n m reply ≡ OriginFailure a b → ⊥
no_failure n m a b reply e = cc

same_number : (n m a b : ℕ) (reply other : Message ResponseHead) → ClientReply n m reply ≡ ClientReply a b other → n ≡ a
same_number n m a b reply other e = cc

-- what is read as a reply is a record of one, with its number
reply_read : (k : Kind) (cause : ToldCause) (a b : ℕ) (to_head : Bool) (octets : List ℕ) (n m : ℕ) (reply : Message ResponseHead) → IsItemOf k cause a b to_head octets (ClientReply n m reply)
    → (k ≡ kind.ClientReply) × (n ≡ a)
reply_read kind.ClientRequest cause a b to_head octets n m reply is = absurd (no_client_request n m a b reply is.0 is.1 is.3)
reply_read kind.OriginRequest cause a b to_head octets n m reply is = absurd (no_origin_request n m a b reply is.0 is.1 (exchange_told cause) is.3)
reply_read kind.OriginResponse cause a b to_head octets n m reply is = absurd (no_response n m a b reply is.0 is.2)
reply_read kind.OriginFailure cause a b to_head octets n m reply is = absurd (no_failure n m a b reply is)
reply_read kind.ClientReply cause a b to_head octets n m reply is = (refl, same_number n m a b reply is.0 is.2)

-- a reply of a transcript answers what is open
reply_open : (h : List Item) (l : Line) (octets : List ℕ) (n m : ℕ) (reply : Message ResponseHead) → line_fault h l ≡ None
    → IsItemOf l.kind l.cause l.number l.moment (is_to_head l.kind l.number h) octets (ClientReply n m reply) → IsSome (exchange_of n h)
reply_open h l octets n m reply keeps reads =
    let is = reply_read l.kind l.cause l.number l.moment (is_to_head l.kind l.number h) octets n m reply reads in
    let order = order_after h l keeps in
    subst (λ (k : ℕ). IsSome (exchange_of k h)) (sym is.1)
    (is_there (exchange_of l.number h)
    (subst (λ (k : Kind). answers_open k (is_some (exchange_of l.number h)) (is_some (forward_of l.number h)) ≡ true) is.0 order.is_open))

pub follows_open : (format : Format) (h : List Item) (r : Record) (item : Item) → Follows format h r item → AnswersOpen h item
follows_open format h r (ClientReply number moment reply) follows = reply_open h (line_of format r) (message_of r) number moment reply follows.keeps follows.reads
follows_open format h r item follows = tt

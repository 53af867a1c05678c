-- What is seen of a history is enough to judge its replies.
use Rattle.std.proofs.Common.{◌≡◌, ℕ, ◌≤◌, Bool, true, false, List, [], Option, Some, None, refl, sym, ap, subst, ◌∙◌, arith, ltb, inl, inr}
use Rattle.std.specs.List.{list_any}
use Rattle.hc_head.specs.declared.head.ResponseHead.{ResponseHead}
use Rattle.hc_head.specs.declared.head.Target.{Target}
use Rattle.hc_framing.specs.declared.message.Message.{Message}
use Rattle.hc_status.specs.declared.marks.Mark.{Mark}
use Rattle.hc_status.specs.declared.marks.Mark.TheVariants.{Hit, Forwarded, Both, Unmarked}
use Rattle.hc_transcript.specs.declared.format.Format.{Format}
use Rattle.hc_transcript.specs.Items.{Item, Exchange}
use Rattle.hc_transcript.specs.History.{exchange_of}
use Rattle.hc_history.specs.declared.reasons.Reason.{Reason}
use Rattle.hc_history.specs.declared.settings.Settings.{Settings}
use Rattle.hc_history.specs.declared.verdicts.Finding.{Finding}
use Rattle.hc_history.specs.declared.verdicts.Finding.TheVariants.{Right, Wrong}
use Rattle.hc_history.specs.Marks.{infers, mark_by, mark_to, reply_mark}
use Rattle.hc_history.specs.Windows.{some_since, has_forward, is_error, is_failure}
use Rattle.hc_history.specs.Claims.{Claim, ttl_of, claim_of}
use Rattle.hc_history.specs.Reused.{Pass, IsFirstFailed, filter_count, forwarded_count, collapsed_count}
use Rattle.hc_history.specs.declared.among.Among.{Among}
use Rattle.hc_history.specs.declared.among.Among.TheVariants.{Any, InWindow, Recent}
use Rattle.hc_history.specs.Forwarded.{carries, is_forwarded}
use Rattle.hc_history.specs.Right.{CarriesStored, IsFoundBy, IsFinding, IsRightForwarded, IsWrongForwarded, is_judged_collapsed}
use Rattle.hc_history.specs.Seen.{responses_since, window_responses_of, Seen, IsSeenAs}
use Rattle.hc_history.specs.Furthest.{furthest, furthest_live}
use Rattle.hc_history.proofs.WindowLemmas.{some_since-latest, carried}
use Rattle.hc_history.proofs.FurthestLemmas.{Pass-found, Pass-only}
use Rattle.hc_history.proofs.LiveLemmas.{furthest_is_live}
use Rattle.hc_history.proofs.NoteLemmas.{forwarded_in_window}

-- what a reply to an exchange claims, by what stands in its window
abbrev pub claim_with : Format → Settings → Exchange → ℕ → Message ResponseHead → Bool → Bool → Bool → Claim
claim_with format settings exchange moment reply forwarded error failure = record {
  format = format;
  exchange = exchange.number;
  request = exchange.request;
  target = exchange.target;
  since = exchange.position;
  reply = reply;
  moment = moment;
  is_inferred = infers format settings.allowed forwarded reply;
  ttl = ttl_of (reply_mark reply);
  has_error = error;
  has_failure = failure;
  settings = settings;
}

error_seen : (format : Format) (seen : Seen) (h : List Item) (target : Target) (since : ℕ) → IsSeenAs format seen h → ltb since (seen.error target) ≡ some_since (is_error target) since h
error_seen format seen h target since one = ap (ltb since) (one.error target) ∙ sym (some_since-latest (is_error target) since h)

failure_seen : (format : Format) (seen : Seen) (h : List Item) (target : Target) (since : ℕ) → IsSeenAs format seen h
    → ltb since (seen.failure target) ≡ some_since (is_failure target) since h
failure_seen format seen h target since one = ap (ltb since) (one.failure target) ∙ sym (some_since-latest (is_failure target) since h)

-- what the window of an open exchange has
pub forward_seen : (format : Format) (seen : Seen) (h : List Item) (e : ℕ) (exchange : Exchange) → IsSeenAs format seen h → exchange_of e h ≡ Some exchange
    → seen.has_forward e ≡ has_forward exchange h
forward_seen format seen h e exchange one is = one.has_forward e ∙ forwarded_in_window e h exchange is

-- what a reply claims, by what is seen
pub claim_seen : (format : Format) (seen : Seen) (h : List Item) (settings : Settings) (e : ℕ) (exchange : Exchange) (moment : ℕ) (reply : Message ResponseHead) → IsSeenAs format seen h
    → exchange_of e h ≡ Some exchange
    → claim_with format settings exchange moment reply (seen.has_forward e) (ltb exchange.position (seen.error exchange.target))
    (ltb exchange.position (seen.failure exchange.target))
    ≡ claim_of format settings exchange moment reply h
claim_seen format seen h settings e exchange moment reply one is =
    ap (λ (f : Bool). claim_with format settings exchange moment reply f (ltb exchange.position (seen.error exchange.target)) (ltb exchange.position (seen.failure exchange.target)))
    (forward_seen format seen h e exchange one is)
    ∙ ap (λ (b : Bool). claim_with format settings exchange moment reply (has_forward exchange h) b (ltb exchange.position (seen.failure exchange.target)))
    (error_seen format seen h exchange.target exchange.position one)
    ∙ ap (λ (b : Bool). claim_with format settings exchange moment reply (has_forward exchange h) (some_since (is_error exchange.target) exchange.position h) b)
    (failure_seen format seen h exchange.target exchange.position one)

-- the mark by which it is judged
pub mark_seen : (format : Format) (seen : Seen) (h : List Item) (settings : Settings) (e : ℕ) (exchange : Exchange) (reply : Message ResponseHead) → IsSeenAs format seen h
    → exchange_of e h ≡ Some exchange → mark_by format settings.allowed (seen.has_forward e) reply ≡ mark_to format settings (Some exchange) reply h
mark_seen format seen h settings e exchange reply one is = ap (λ (f : Bool). mark_by format settings.allowed f reply) (forward_seen format seen h e exchange one is)

same_claim : (format : Format) (seen : Seen) (h g : List Item) (settings : Settings) (e : ℕ) (exchange : Exchange) (moment : ℕ) (reply : Message ResponseHead) → IsSeenAs format seen h
    → IsSeenAs format seen g → exchange_of e h ≡ Some exchange → exchange_of e g ≡ Some exchange
    → claim_of format settings exchange moment reply h ≡ claim_of format settings exchange moment reply g
same_claim format seen h g settings e exchange moment reply one other there here =
    sym (claim_seen format seen h settings e exchange moment reply one there) ∙ claim_seen format seen g settings e exchange moment reply other here

same_mark : (format : Format) (seen : Seen) (h g : List Item) (settings : Settings) (e : ℕ) (exchange : Exchange) (reply : Message ResponseHead) → IsSeenAs format seen h
    → IsSeenAs format seen g → exchange_of e h ≡ Some exchange → exchange_of e g ≡ Some exchange
    → mark_to format settings (Some exchange) reply h ≡ mark_to format settings (Some exchange) reply g
same_mark format seen h g settings e exchange reply one other there here =
    sym (mark_seen format seen h settings e exchange reply one there) ∙ mark_seen format seen g settings e exchange reply other here

same_furthest : (format : Format) (seen : Seen) (h g : List Item) (among : Among) (claim : Claim) → IsSeenAs format seen h → IsSeenAs format seen g → furthest among claim h ≡ furthest among claim g
same_furthest format seen h g among claim one other =
    sym (furthest_is_live among claim h)
    ∙ ap (furthest_live among claim) (sym (one.live claim.target) ∙ other.live claim.target)
    ∙ furthest_is_live among claim g

-- whom one history has to pass so many filters, the other has too
pass_alike : (format : Format) (seen : Seen) (h g : List Item) (n : ℕ) (among : Among) (claim : Claim) → IsSeenAs format seen h → IsSeenAs format seen g → 1 ≤ n → n ≤ filter_count
    → Pass n among claim h → Pass n among claim g
pass_alike format seen h g n among claim one other some few pass =
    Pass-found n among claim g some (omega (arith, same_furthest format seen h g among claim one other, Pass-only n among claim h few pass))

first_alike : (format : Format) (seen : Seen) (h g : List Item) (n : ℕ) (claim : Claim) → IsSeenAs format seen h → IsSeenAs format seen g → IsFirstFailed n claim h → IsFirstFailed n claim g
first_alike format seen h g n claim one other first = record {
  is_filter = first.is_filter;
  leaves_nobody = λ pass. first.leaves_nobody (pass_alike format seen g h n Any claim other one first.is_filter.0 first.is_filter.1 pass);
  earlier = λ k some below. pass_alike format seen h g k Any claim one other some (omega (arith, first.is_filter.1)) (first.earlier k some below);
}

-- what the window of the exchange holds of its target
same_window : (format : Format) (seen : Seen) (h g : List Item) (e : ℕ) (exchange : Exchange) → IsSeenAs format seen h → IsSeenAs format seen g → exchange_of e h ≡ Some exchange
    → exchange_of e g ≡ Some exchange → responses_since format exchange.number exchange.target exchange.position h ≡ responses_since format exchange.number exchange.target exchange.position g
same_window format seen h g e exchange one other open_there open_here =
    sym (ap (λ (o : Option Exchange). window_responses_of format o h) open_there)
    ∙ sym (one.window e)
    ∙ other.window e
    ∙ ap (λ (o : Option Exchange). window_responses_of format o g) open_here

same_forwarded : (claim : Claim) (h g : List Item) → responses_since claim.format claim.exchange claim.target claim.since h ≡ responses_since claim.format claim.exchange claim.target claim.since g
    → is_forwarded claim h ≡ is_forwarded claim g
same_forwarded claim h g same =
    carried claim h
    ∙ ap (list_any (λ one. carries claim one.method one.status one.body)) same
    ∙ sym (carried claim g)

-- a reply that went forward
stored_alike : (format : Format) (seen : Seen) (h g : List Item) (inferred : Bool) (claim : Claim) → IsSeenAs format seen h → IsSeenAs format seen g → CarriesStored inferred claim h
    → CarriesStored inferred claim g
stored_alike format seen h g false claim one other pass = pass_alike format seen h g forwarded_count Any claim one other (omega arith) (omega arith) pass
stored_alike format seen h g true claim one other stored = elim stored [
  | inl pass ↦ inl (pass_alike format seen h g filter_count Any claim one other (omega arith) (omega arith) pass)
  | inr pass ↦ inr (pass_alike format seen h g forwarded_count Recent claim one other (omega arith) (omega arith) pass)
]

right_forwarded_alike : (format : Format) (seen : Seen) (h g : List Item) (judged : Bool) (claim : Claim) → IsSeenAs format seen h → IsSeenAs format seen g
    → is_forwarded claim h ≡ is_forwarded claim g → IsRightForwarded judged claim h → IsRightForwarded judged claim g
right_forwarded_alike format seen h g true claim one other window is =
    pass_alike format seen h g collapsed_count InWindow claim one other (omega arith) (omega arith) is
right_forwarded_alike format seen h g false claim one other window is = elim is [
  | inl carries_it ↦ inl (sym window ∙ carries_it)
  | inr stored ↦ inr (stored_alike format seen h g claim.is_inferred claim one other stored)
]

wrong_forwarded_alike : (format : Format) (seen : Seen) (h g : List Item) (judged : Bool) (claim : Claim) (why : Reason) → IsSeenAs format seen h → IsSeenAs format seen g
    → is_forwarded claim h ≡ is_forwarded claim g → IsWrongForwarded judged claim h why → IsWrongForwarded judged claim g why
wrong_forwarded_alike format seen h g true claim why one other window is =
    (is.0, λ pass. is.1 (pass_alike format seen g h collapsed_count InWindow claim other one (omega arith) (omega arith) pass))
wrong_forwarded_alike format seen h g false claim why one other window is = (
  is.0,
  (sym window ∙ is.1.0, λ stored. is.1.1 (stored_alike format seen g h claim.is_inferred claim other one stored)),
)

found_alike : (format : Format) (seen : Seen) (h g : List Item) (mark : Mark) (claim : Claim) (found : Finding) → IsSeenAs format seen h → IsSeenAs format seen g
    → is_forwarded claim h ≡ is_forwarded claim g → IsFoundBy mark claim h found → IsFoundBy mark claim g found
found_alike format seen h g (Hit ttl) claim Right one other window is = pass_alike format seen h g filter_count Any claim one other (omega arith) (omega arith) is
found_alike format seen h g (Hit ttl) claim (Wrong why) one other window is = first_alike format seen h g _ claim one other is
found_alike format seen h g (Forwarded collapsed) claim Right one other window is =
    right_forwarded_alike format seen h g (is_judged_collapsed claim.format collapsed) claim one other window is
found_alike format seen h g (Forwarded collapsed) claim (Wrong why) one other window is =
    wrong_forwarded_alike format seen h g (is_judged_collapsed claim.format collapsed) claim why one other window is
found_alike format seen h g Both claim found one other window is = both claim found is
  where
    both : (claim : Claim) (found : Finding) → IsFoundBy Both claim h found → IsFoundBy Both claim g found
    both claim Right is = is
    both claim (Wrong why) is = is
found_alike format seen h g Unmarked claim found one other window is = unmarked claim found is
  where
    unmarked : (claim : Claim) (found : Finding) → IsFoundBy Unmarked claim h found → IsFoundBy Unmarked claim g found
    unmarked claim Right is = is
    unmarked claim (Wrong why) is = is

finding_alike : (format : Format) (seen : Seen) (h g : List Item) (settings : Settings) (e moment : ℕ) (reply : Message ResponseHead) (found : Finding) (o : Option Exchange)
    → IsSeenAs format seen h → IsSeenAs format seen g → exchange_of e h ≡ o → exchange_of e g ≡ o
    → IsFinding format settings o moment reply h found → IsFinding format settings o moment reply g found
finding_alike format seen h g settings e moment reply found None one other there here is = tt
finding_alike format seen h g settings e moment reply found (Some exchange) one other there here is =
    let claim = claim_of format settings exchange moment reply in
    let forwarded = same_forwarded (claim h) h g (same_window format seen h g e exchange one other there here) in
    let mark = mark_to format settings (Some exchange) reply in
    subst (λ (m : Mark). IsFoundBy m (claim g) g found) (same_mark format seen h g settings e exchange reply one other there here)
    (subst (λ (c : Claim). IsFoundBy (mark h) c g found) (same_claim format seen h g settings e exchange moment reply one other there here)
    (found_alike format seen h g (mark h) (claim h) found one other forwarded is))

pub seen_is_enough : (format : Format) (seen : Seen) (h g : List Item) (settings : Settings) (e moment : ℕ) (reply : Message ResponseHead) (found : Finding)
    → IsSeenAs format seen h → IsSeenAs format seen g
    → IsFinding format settings (exchange_of e h) moment reply h found → IsFinding format settings (exchange_of e g) moment reply g found
seen_is_enough format seen h g settings e moment reply found one other is =
    let same : exchange_of e h ≡ exchange_of e g = sym (one.exchange e) ∙ other.exchange e in
    subst (λ (o : Option Exchange). IsFinding format settings o moment reply g found) same
    (finding_alike format seen h g settings e moment reply found (exchange_of e h) one other refl (sym same) is)

-- of no records the same is seen in both formats
pub nothing_seen : (format other : Format) (seen : Seen) → IsSeenAs format seen [] → IsSeenAs other seen []
nothing_seen format other seen is =
    record { live = is.live; exchange = is.exchange; forward = is.forward; cause = is.cause; window = is.window; has_forward = is.has_forward; error = is.error; failure = is.failure }

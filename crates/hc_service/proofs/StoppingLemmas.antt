-- Once a cache stops, each reply closes its connection.
use Rattle.std.proofs.Common.{◌≡◌, ℕ, Bool, true, false, ◌||◌, List, [], ◌∷◌, ◌++◌, Option, Some, None, refl, sym, ap, ◌∙◌, subst}
use Rattle.hc_head.specs.declared.head.RequestHead.{RequestHead}
use Rattle.hc_head.specs.declared.head.ResponseHead.{ResponseHead}
use Rattle.hc_head.specs.Methods.{is_head}
use Rattle.hc_framing.specs.declared.message.Message.{Message}
use Rattle.hc_update.specs.declared.stored.Stored.{Stored}
use Rattle.hc_service.specs.declared.event.Event.{Event}
use Rattle.hc_service.specs.declared.event.Happening.{Happening}
use Rattle.hc_service.specs.declared.event.Happening.TheVariants.{Stopping as ToStop}
use Rattle.hc_service.specs.declared.action.Action.{Action}
use Rattle.hc_service.specs.declared.action.Action.TheVariants as action
use Rattle.hc_service.specs.declared.numbers.Numbers.{Numbers}
use Rattle.hc_service.specs.declared.open.Purpose.{Purpose}
use Rattle.hc_service.specs.declared.open.Purpose.TheVariants as purpose
use Rattle.hc_service.specs.declared.settings.CoreSettings.{CoreSettings}
use Rattle.hc_service.specs.Answers.{Outcome}
use Rattle.hc_service.specs.Answers.Outcome.{Replies, GoesAnew}
use Rattle.hc_service.specs.Asking.{ends_connection}
use Rattle.hc_service.specs.Joining.{shared}
use Rattle.hc_service.specs.Laws.{AllCloseBehind, ClosesFirst, ClosesOn}
use Rattle.hc_service.specs.Numbers.{after_opening, one_more, stopping}
use Rattle.hc_service.specs.Reactions.{Reaction, forward_anew}
use Rattle.hc_service.specs.Reactions.Reaction.{Replies as RepliesAtOnce, Sends, Waits}
use Rattle.hc_service.specs.Replying.{collapsed_reply}
use Rattle.hc_service.specs.Sending.{ask_actions, failure_actions, reply_actions, send_actions}
use Rattle.hc_service.specs.Serves.{Owes, Run, Serves, Takes, Turn, passed_to}
use Rattle.hc_service.specs.Serves.Turn.{Opening, ClientSending, Asking, Refusal, Dropping, Leaving, Closing, OriginSending, Answering, Failing, Releasing, Stopping}
use Rattle.hc_service.specs.State.{State, Connection}
use Rattle.hc_service.specs.Turns.{Asker, DoesOutcome, DoesReaction, DoesRelease, Ended, EndsByFailure, EndsByResponse, answered_now, arrived_on, asker_now, failed_now, is_closed, wanted_now, whole_request}

-- ---- actions

closes_still : (c : ℕ) (xs ys : List Action) → ClosesFirst c xs → ClosesFirst c (xs ++ ys)
closes_still c [] ys is = absurd is
closes_still c (action.ToClient d octets ∷ xs) ys is = absurd is
closes_still c (action.CloseClient d ∷ xs) ys is = is
closes_still c (action.Forward f octets ∷ xs) ys is = absurd is
closes_still c (action.CloseForward f ∷ xs) ys is = absurd is
closes_still c (action.Record r ∷ xs) ys is = absurd is

close_then : (xs ys : List Action) → AllCloseBehind xs → AllCloseBehind ys → AllCloseBehind (xs ++ ys)
close_then [] ys one more = more
close_then (action.ToClient c octets ∷ xs) ys one more = (closes_still c xs ys one.0, close_then xs ys one.1 more)
close_then (action.CloseClient c ∷ xs) ys one more = close_then xs ys one more
close_then (action.Forward f octets ∷ xs) ys one more = close_then xs ys one more
close_then (action.CloseForward f ∷ xs) ys one more = close_then xs ys one more
close_then (action.Record r ∷ xs) ys one more = close_then xs ys one more

reply_closes : (e t : ℕ) (to_head : Bool) (c : ℕ) (closes : Bool) (reply : Message ResponseHead) → closes ≡ true → AllCloseBehind (reply_actions e t to_head c closes reply)
reply_closes e t to_head c true reply is = (refl, tt)
reply_closes e t to_head c false reply is = absurd (cc)

failure_closes : (f t : ℕ) (closes : Bool) → AllCloseBehind (failure_actions f t closes)
failure_closes f t true = tt
failure_closes f t false = tt

-- ---- turns

last_of : (x y z : Bool) → z ≡ true → (x || (y || z)) ≡ true
last_of true y z is = refl
last_of false true z is = refl
last_of false false z is = is

pub wants_last : (settings : CoreSettings) (s : State) (request : RequestHead) (k : Connection) → s.numbers.closing ≡ true → (wanted_now settings s request k).closes ≡ true
wants_last settings s request k closing = last_of (ends_connection request) k.leaves s.numbers.closing closing

of_parts : (actions given : List Action) (s' : State) (n : Numbers) → s'.numbers ≡ n → n.closing ≡ true → actions ≡ given → AllCloseBehind given → ClosesOn actions s'
of_parts actions given s' n numbers closing is behind =
    record { behind = subst AllCloseBehind (sym is) behind; closing = ap (λ (n : Numbers). n.closing) numbers ∙ closing }

asking_closes : (settings : CoreSettings) (c : ℕ) (s : State) (actions : List Action) (s' : State) → s.numbers.closing ≡ true → Takes settings (Asking c) s actions s' → ClosesOn actions s'
asking_closes settings c s actions s' closing t = by_reaction t.reaction t.does
  where
    e : ℕ
    e = one_more s.numbers.exchange

    replies : Message ResponseHead → List Action
    replies reply = reply_actions e s.numbers.moment (is_head t.request.head.method) c (wanted_now settings s t.request.head t.connection).closes reply

    replies_close : (reply : Message ResponseHead) → AllCloseBehind (replies reply)
    replies_close reply =
        reply_closes e s.numbers.moment (is_head t.request.head.method) c (wanted_now settings s t.request.head t.connection).closes reply
        (wants_last settings s t.request.head t.connection closing)

    by_reaction : (r : Reaction) → DoesReaction r (arrived_on c t.connection t.size (whole_request settings s t.request t.target t.connection)) s actions s' → ClosesOn actions s'
    by_reaction (RepliesAtOnce reply None) d = of_parts actions _ s' _ d.numbers closing d.actions_are (replies_close reply)
    by_reaction (RepliesAtOnce reply (Some validation)) d =
        of_parts actions _ s' _ d.numbers closing d.actions_are
        (close_then (ask_actions e s.numbers.moment t.request ++ replies reply) (send_actions (one_more s.numbers.forward) s.numbers.moment None validation) (replies_close reply) tt)
    by_reaction (Sends forward why kind) d = of_parts actions _ s' _ d.numbers closing d.actions_are tt
    by_reaction (Waits f) d = of_parts actions _ s' _ d.numbers closing d.actions_are tt

outcome_closes : (ended : Ended) (asker : Asker) (o : Outcome) (s : State) (actions : List Action) (s' : State) → s.numbers.closing ≡ true → asker.wanted.closes ≡ true
    → AllCloseBehind ended.first → DoesOutcome o ended asker s actions s' → ClosesOn actions s'
outcome_closes ended asker (Replies reply) s actions s' closing closes first d =
    of_parts actions _ s' _ d.numbers closing d.actions_are
    (close_then ended.first (reply_actions ended.exchange s.numbers.moment (is_head asker.exchange.request.method) asker.exchange.connection asker.wanted.closes reply) first
    (reply_closes ended.exchange s.numbers.moment (is_head asker.exchange.request.method) asker.exchange.connection asker.wanted.closes reply closes))
outcome_closes ended asker GoesAnew s actions s' closing closes first d =
    of_parts actions _ s' _ d.numbers closing d.actions_are
    (close_then ended.first
    (send_actions (one_more s.numbers.forward) s.numbers.moment (Some ended.exchange) (forward_anew asker.wanted.name asker.exchange.target asker.exchange.request)) first tt)

turn_closes : (settings : CoreSettings) (turn : Turn) (s : State) (actions : List Action) (s' : State) → s.numbers.closing ≡ true → Takes settings turn s actions s' → ClosesOn actions s'
turn_closes settings (Opening c) s actions s' closing t = of_parts actions [] s' (after_opening c s.numbers) t.numbers closing t.actions_are tt
turn_closes settings (ClientSending c octets) s actions s' closing t = of_parts actions [] s' s.numbers t.keeps.numbers closing t.actions_are tt
turn_closes settings (Asking c) s actions s' closing t = asking_closes settings c s actions s' closing t
turn_closes settings (Refusal c status) s actions s' closing t = of_parts actions _ s' s.numbers t.keeps.numbers closing t.actions_are (refl, tt)
turn_closes settings (Dropping c) s actions s' closing t = of_parts actions [] s' s.numbers t.keeps.numbers closing t.actions_are tt
turn_closes settings (Leaving c) s actions s' closing t = of_parts actions [] s' s.numbers t.keeps.numbers closing t.actions_are tt
turn_closes settings (Closing c) s actions s' closing t = of_parts actions _ s' s.numbers t.keeps.numbers closing t.actions_are tt
turn_closes settings (OriginSending f octets) s actions s' closing t = of_parts actions [] s' s.numbers t.keeps.numbers closing t.actions_are tt
turn_closes settings (Answering f ended) s actions s' closing t = by_purpose t.awaited.forward.purpose t.ends
  where
    by_purpose : (p : Purpose) → EndsByResponse p settings (answered_now f t.awaited.forward t.response t.renewed s) s actions s' → ClosesOn actions s'
    by_purpose purpose.Background d = of_parts actions _ s' _ d.1.numbers closing d.1.actions_are tt
    by_purpose (purpose.Reply e why kind) d =
        outcome_closes (record { forward = f; exchange = e; why = why; first = (answered_now f t.awaited.forward t.response t.renewed s).first })
        (asker_now settings s d.exchange d.connection) d.outcome s actions s' closing (wants_last settings s d.exchange.request d.connection closing) tt d.does
turn_closes settings (Failing f how) s actions s' closing t = by_purpose t.awaited.forward.purpose t.ends
  where
    by_purpose : (p : Purpose) → EndsByFailure p settings (failed_now f t.awaited.forward.target how s) s actions s' → ClosesOn actions s'
    by_purpose purpose.Background d = of_parts actions _ s' _ d.1.numbers closing d.1.actions_are (failure_closes f s.numbers.moment (is_closed how))
    by_purpose (purpose.Reply e why kind) d =
        outcome_closes (record { forward = f; exchange = e; why = why; first = (failed_now f t.awaited.forward.target how s).first })
        (asker_now settings s d.exchange d.connection) d.outcome s actions s' closing (wants_last settings s d.exchange.request d.connection closing)
        (failure_closes f s.numbers.moment (is_closed how)) d.does
turn_closes settings (Releasing e) s actions s' closing t = by_choice (shared s.numbers.moment t.chosen) t.does
  where
    by_choice : (o : Option Stored) → DoesRelease o e (asker_now settings s t.exchange t.connection) s actions s' → ClosesOn actions s'
    by_choice (Some stored) d =
        of_parts actions _ s' _ d.numbers closing d.actions_are
        (reply_closes e s.numbers.moment (is_head t.exchange.request.method) t.exchange.connection (wanted_now settings s t.exchange.request t.connection).closes
        (collapsed_reply (wanted_now settings s t.exchange.request t.connection) stored) (wants_last settings s t.exchange.request t.connection closing))
    by_choice None d = of_parts actions _ s' _ d.numbers closing d.actions_are tt
turn_closes settings Stopping s actions s' closing t = of_parts actions [] s' (stopping s.numbers) t.numbers refl t.actions_are tt

-- ---- events

run_closes : (settings : CoreSettings) (turns : List Turn) (s : State) (actions : List Action) (s' : State) → s.numbers.closing ≡ true → Run settings turns s actions s' → ClosesOn actions s'
run_closes settings [] s actions s' closing r = of_parts actions [] s' s.numbers (ap (λ (s : State). s.numbers) r.1) closing r.0 tt
run_closes settings (turn ∷ turns) s actions s' closing r =
    let one = turn_closes settings turn s r.1 r.0 closing r.3 in
    let more = run_closes settings turns r.0 r.2 s' one.closing r.5 in
    record { behind = subst AllCloseBehind (sym r.4) (close_then r.1 r.2 one.behind more.behind); closing = more.closing }

pub event_closes : (settings : CoreSettings) (event : Event) (s : State) (actions : List Action) (s' : State) → s.numbers.closing ≡ true → Serves settings event s actions s' → ClosesOn actions s'
event_closes settings event s actions s' closing v = run_closes settings v.turns (passed_to event.moment s) actions s' closing v.run

pub event_stops : (settings : CoreSettings) (event : Event) (s : State) (actions : List Action) (s' : State) → event.of ≡ ToStop → Serves settings event s actions s' → ClosesOn actions s'
event_stops settings event s actions s' is v =
    let owes = subst (λ (happening : Happening). Owes happening v.turns s s') is v.owes in
    let r = subst (λ (turns : List Turn). Run settings turns (passed_to event.moment s) actions s') owes v.run in
    let one = of_parts r.1 [] r.0 (stopping (passed_to event.moment s).numbers) r.3.numbers refl r.3.actions_are tt in
    let more = run_closes settings [] r.0 r.2 s' one.closing r.5 in
    record { behind = subst AllCloseBehind (sym r.4) (close_then r.1 r.2 one.behind more.behind); closing = more.closing }

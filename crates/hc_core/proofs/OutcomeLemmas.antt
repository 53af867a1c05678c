-- A forward ends with a response, or by a failure: for the store alone, or for an exchange.
use Rattle.std.proofs.Common.{◌≡◌, ℕ, Bool, List, ◌++◌, Some, None, refl, sym, ap, ◌∙◌, subst, inl, inr}
use Rattle.std.specs.BTreeMap.{BTreeMap}
use Rattle.std.specs.FinMap.{get}
use Rattle.hc_head.specs.declared.head.ResponseHead.{ResponseHead}
use Rattle.hc_head.specs.Methods.{is_head}
use Rattle.hc_framing.specs.declared.message.Message.{Message}
use Rattle.hc_store.specs.Entries.{Holdings}
use Rattle.hc_service.specs.declared.action.Action.{Action}
use Rattle.hc_service.specs.declared.cases.Cause.{Cause}
use Rattle.hc_service.specs.declared.numbers.Numbers.{Numbers}
use Rattle.hc_service.specs.declared.open.ForwardKind.{ForwardKind}
use Rattle.hc_service.specs.declared.open.OpenForward.{OpenForward}
use Rattle.hc_service.specs.declared.open.Purpose.{Purpose}
use Rattle.hc_service.specs.declared.open.Purpose.TheVariants as purpose
use Rattle.hc_service.specs.declared.settings.CoreSettings.{CoreSettings}
use Rattle.hc_service.specs.Answers.{Fails, Renews, Responds, StoresBehind, rule_of}
use Rattle.hc_service.specs.Answers.Outcome.{Replies, GoesAnew}
use Rattle.hc_service.specs.Numbers.{noted, one_more}
use Rattle.hc_service.specs.Sending.{failure_actions, response_actions}
use Rattle.hc_service.specs.Serves.Turn.{Answering, Failing}
use Rattle.hc_service.specs.State.{State, Awaited, is_conditional}
use Rattle.hc_service.specs.Turns.{Answers, Breaks, EndsByFailure, EndsByResponse, Failure, HasFailure, IsAnswer, answered_now, failed_now, is_closed}
use Rattle.hc_core.specs.declared.answering.HeldExchange.{HeldExchange}
use Rattle.hc_core.specs.declared.desk.Desk.{Desk}
use Rattle.hc_open.specs.declared.links.Client.{Client}
use Rattle.hc_open.specs.declared.open_exchanges.OpenExchanges.{OpenExchanges}
use Rattle.hc_core.specs.Ending.{GivesOutcome, GivesReply, IsMissing, IsTaken, wanted_of}
use Rattle.hc_core.specs.Standing.{GivesEnding, DeskStandsFor, without_forward, from_state, at_desk}
use Rattle.hc_core.proofs.EndLemmas.{answers_by, breaks_by, ends_behind, ends_missing, ends_with_forward, ends_with_reply}

module _ (S H : Type 0) (settings : CoreSettings) (d : Desk S H) (s : State) (f : ℕ) (awaited : Awaited) (forward : OpenForward)
    (stands : DeskStandsFor {S = S} {H = H} settings d (without_forward f s)) (there : get s.forwards f ≡ Some awaited) (same : awaited.forward ≡ forward) where
  -- what is kept once the end has its record
  abbrev pub behind_end : Numbers → BTreeMap ℕ Client → OpenExchanges → Holdings → Desk S H
  behind_end numbers clients exchanges store =
      record { alloc = d.alloc; incidents = d.incidents; name = d.name; numbers = numbers; clients = clients; exchanges = exchanges; links = d.links; store = store }

  -- ---- a response

  -- it has its record, and the store has been renewed of it
  pub record HasAnswered (response : Message ResponseHead) (to_head : Bool) (before after : List Action) (numbers : Numbers) (renewed : Holdings) : Type 0 where
    pub to_head_is : to_head ≡ is_head forward.request.method
    pub numbers_are : numbers ≡ noted d.numbers
    pub actions_are : after ≡ before ++ response_actions f d.numbers.moment to_head response
    pub renews : Renews forward numbers.moment numbers.records response.head d.store renewed

  module _ (ended : Bool) (response : Message ResponseHead) (to_head : Bool) (before after : List Action) (numbers : Numbers) (renewed : Holdings)
      (arrives : IsAnswer ended (is_head forward.request.method) awaited.received response) (has : HasAnswered response to_head before after numbers renewed) where
    abbrev first_answered : List Action
    first_answered = response_actions f s.numbers.moment (is_head forward.request.method) response

    actions_answered : after ≡ before ++ first_answered
    actions_answered =
        has.actions_are ∙ ap (λ (n : Numbers). before ++ response_actions f n.moment to_head response) stands.numbers
        ∙ ap (λ (b : Bool). before ++ response_actions f s.numbers.moment b response) has.to_head_is

    moment_answered : numbers.moment ≡ s.numbers.moment
    moment_answered = ap (λ (n : Numbers). n.moment) (has.numbers_are ∙ ap noted stands.numbers)

    position_answered : numbers.records ≡ one_more s.numbers.records
    position_answered = ap (λ (n : Numbers). n.records) (has.numbers_are ∙ ap noted stands.numbers)

    renews_now : Renews forward s.numbers.moment (one_more s.numbers.records) response.head s.store renewed
    renews_now =
        subst (λ (x : ℕ × ℕ × Holdings). Renews forward x.0 x.1 response.head x.2 renewed) (λ i. (moment_answered i, position_answered i, stands.store i)) has.renews

    takes_answer : (p : Purpose) (added : List Action) (s' : State) → forward.purpose ≡ p
        → EndsByResponse p settings (answered_now f forward response renewed s) s added s' → Answers settings f ended s added s'
    takes_answer p added s' is ends = answers_by S H settings d s f awaited forward stands there same ended response renewed p added s' is arrives renews_now ends

    -- the store alone gets it
    pub answers_behind : (store : Holdings) → forward.purpose ≡ purpose.Background → StoresBehind forward numbers.moment response renewed store
        → GivesEnding {S = S} {H = H} (from_state settings s before) (Answering f ended) f None (at_desk after (behind_end numbers d.clients d.exchanges store))
    answers_behind store is stores =
        ends_behind S H settings d s f awaited forward stands there same (Answering f ended) first_answered before after (behind_end numbers d.clients d.exchanges store)
        (record { name = refl; numbers = has.numbers_are; links = refl; actions = actions_answered }) refl refl is
        (λ added s' store_is ends. takes_answer purpose.Background added s' is (stored s'.store store_is, ends))
      where
        stored : (new : Holdings) → new ≡ store → StoresBehind forward s.numbers.moment response renewed new
        stored new new_is =
            subst (λ (h : Holdings). StoresBehind forward s.numbers.moment response renewed h) (sym new_is)
            (subst (λ (m : ℕ). StoresBehind forward m response renewed store) moment_answered stores)

    module _ (e : ℕ) (why : Cause) (kind : ForwardKind) (clients : BTreeMap ℕ Client) (exchanges : OpenExchanges) (is : forward.purpose ≡ purpose.Reply e why kind) where
      -- the exchange that it is for isn't there
      pub answers_nobody : IsMissing e s.exchanges s.connections exchanges clients
          → GivesEnding {S = S} {H = H} (from_state settings s before) (Answering f ended) f None (at_desk after (behind_end numbers clients exchanges renewed))
      answers_nobody missing =
          ends_missing S H settings d s f awaited forward stands there same e why kind is (Answering f ended) first_answered before after (behind_end numbers clients exchanges renewed)
          (record { name = refl; numbers = has.numbers_are; links = refl; actions = actions_answered }) missing

      -- the exchange that it is for gets its reply, or its request goes to the origin anew
      pub answers_request : (w : HeldExchange) (last : List Action) (new : Desk S H) → IsTaken e w s.exchanges s.connections exchanges clients
          → GivesOutcome {S = S} {H = H} w why
          (λ outcome old fresh. Responds (rule_of why (is_conditional kind) forward.request response.head)
          (record { wanted = wanted_of {S = S} {H = H} (behind_end numbers clients exchanges renewed) w; forward = forward; cause = why; response = response }) numbers.records old outcome fresh)
          (at_desk after (behind_end numbers clients exchanges renewed)) (at_desk last new)
          → GivesEnding {S = S} {H = H} (from_state settings s before) (Answering f ended) f (Some w.exchange.connection) (at_desk last new)
      answers_request w last new taken (inl gives) =
          ends_with_reply S H settings d s f awaited forward stands there same e why kind is (Answering f ended)
          (λ wanted outcome fresh. Responds (rule_of why (is_conditional kind) forward.request response.head)
          (record { wanted = wanted; forward = forward; cause = why; response = response }) (one_more s.numbers.records) renewed outcome fresh)
          first_answered before after last (behind_end numbers clients exchanges renewed) new w
          (record { name = refl; numbers = has.numbers_are; links = refl; actions = actions_answered }) taken
          (record {
            reply = gives.reply;
            decided = subst
                (λ (p : ℕ). Responds (rule_of why (is_conditional kind) forward.request response.head)
                (record { wanted = wanted_of {S = S} {H = H} (behind_end numbers clients exchanges renewed) w; forward = forward; cause = why; response = response }) p renewed (Replies gives.reply) new.store)
                position_answered gives.decided;
            replies = gives.replies;
          })
          (λ added s' ends. takes_answer (purpose.Reply e why kind) added s' is ends)
      answers_request w last new taken (inr gives) =
          ends_with_forward S H settings d s f awaited forward stands there same e why kind is (Answering f ended)
          (λ wanted outcome fresh. Responds (rule_of why (is_conditional kind) forward.request response.head)
          (record { wanted = wanted; forward = forward; cause = why; response = response }) (one_more s.numbers.records) renewed outcome fresh)
          first_answered before after last (behind_end numbers clients exchanges renewed) new w
          (record { name = refl; numbers = has.numbers_are; links = refl; actions = actions_answered }) taken
          (record {
            decided = subst
                (λ (p : ℕ). Responds (rule_of why (is_conditional kind) forward.request response.head)
                (record { wanted = wanted_of {S = S} {H = H} (behind_end numbers clients exchanges renewed) w; forward = forward; cause = why; response = response }) p renewed GoesAnew new.store)
                position_answered gives.decided;
            asks = gives.asks;
          })
          (λ added s' ends. takes_answer (purpose.Reply e why kind) added s' is ends)

  -- ---- a failure

  -- it has its record
  pub record HasBroken (closes : Bool) (before after : List Action) (numbers : Numbers) : Type 0 where
    pub numbers_are : numbers ≡ noted d.numbers
    pub actions_are : after ≡ before ++ failure_actions f d.numbers.moment closes

  module _ (how : Failure) (closes : Bool) (before after : List Action) (numbers : Numbers) (closes_is : is_closed how ≡ closes)
      (fails : HasFailure how (is_head forward.request.method) awaited.received) (has : HasBroken closes before after numbers) where
    abbrev first_broken : List Action
    first_broken = failure_actions f s.numbers.moment (is_closed how)

    actions_broken : after ≡ before ++ first_broken
    actions_broken =
        has.actions_are ∙ ap (λ (n : Numbers). before ++ failure_actions f n.moment closes) stands.numbers
        ∙ ap (λ (b : Bool). before ++ failure_actions f s.numbers.moment b) (sym closes_is)

    takes_failure : (p : Purpose) (added : List Action) (s' : State) → forward.purpose ≡ p
        → EndsByFailure p settings (failed_now f forward.target how s) s added s' → Breaks settings f how s added s'
    takes_failure p added s' is ends = breaks_by S H settings d s f awaited forward stands there same how p added s' is fails ends

    -- it is for no exchange
    pub breaks_behind : forward.purpose ≡ purpose.Background
        → GivesEnding {S = S} {H = H} (from_state settings s before) (Failing f how) f None (at_desk after (behind_end numbers d.clients d.exchanges d.store))
    breaks_behind is =
        ends_behind S H settings d s f awaited forward stands there same (Failing f how) first_broken before after (behind_end numbers d.clients d.exchanges d.store)
        (record { name = refl; numbers = has.numbers_are; links = refl; actions = actions_broken }) refl refl is
        (λ added s' store_is ends. takes_failure purpose.Background added s' is (store_is ∙ stands.store, ends))

    module _ (e : ℕ) (why : Cause) (kind : ForwardKind) (clients : BTreeMap ℕ Client) (exchanges : OpenExchanges) (is : forward.purpose ≡ purpose.Reply e why kind) where
      -- the exchange that it is for isn't there
      pub breaks_nobody : IsMissing e s.exchanges s.connections exchanges clients
          → GivesEnding {S = S} {H = H} (from_state settings s before) (Failing f how) f None (at_desk after (behind_end numbers clients exchanges d.store))
      breaks_nobody missing =
          ends_missing S H settings d s f awaited forward stands there same e why kind is (Failing f how) first_broken before after (behind_end numbers clients exchanges d.store)
          (record { name = refl; numbers = has.numbers_are; links = refl; actions = actions_broken }) missing

      -- the exchange that it is for gets its reply
      pub breaks_request : (w : HeldExchange) (last : List Action) (new : Desk S H) → IsTaken e w s.exchanges s.connections exchanges clients
          → GivesReply {S = S} {H = H} w
          (λ reply old fresh. Fails (wanted_of {S = S} {H = H} (behind_end numbers clients exchanges d.store) w) forward.target why old (Replies reply) fresh)
          (at_desk after (behind_end numbers clients exchanges d.store)) (at_desk last new)
          → GivesEnding {S = S} {H = H} (from_state settings s before) (Failing f how) f (Some w.exchange.connection) (at_desk last new)
      breaks_request w last new taken gives =
          ends_with_reply S H settings d s f awaited forward stands there same e why kind is (Failing f how)
          (λ wanted outcome fresh. Fails wanted forward.target why s.store outcome fresh)
          first_broken before after last (behind_end numbers clients exchanges d.store) new w
          (record { name = refl; numbers = has.numbers_are; links = refl; actions = actions_broken }) taken
          (record {
            reply = gives.reply;
            decided = subst (λ (h : Holdings). Fails (wanted_of {S = S} {H = H} (behind_end numbers clients exchanges d.store) w) forward.target why h (Replies gives.reply) new.store) stands.store gives.decided;
            replies = gives.replies;
          })
          (λ added s' ends. takes_failure (purpose.Reply e why kind) added s' is ends)

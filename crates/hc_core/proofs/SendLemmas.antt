-- The reply of an exchange goes out.
use Rattle.std.proofs.Common.{◌≡◌, ℕ, Bool, cond, List, ◌++◌, Result, Ok, Err, IsOk, OnOk, refl, sym, ap, ◌∙◌, subst}
use Rattle.std.specs.BTreeMap.{BTreeMap}
use Rattle.std.specs.FinMap.{insert}
use Rattle.hc_head.specs.declared.head.RequestHead.{RequestHead}
use Rattle.hc_head.specs.declared.head.ResponseHead.{ResponseHead}
use Rattle.hc_head.specs.declared.head.Target.{Target}
use Rattle.hc_head.specs.Methods.{is_head}
use Rattle.hc_framing.specs.declared.message.Message.{Message}
use Rattle.hc_store.specs.Entries.{Holdings}
use Rattle.hc_service.specs.declared.action.Action.{Action}
use Rattle.hc_service.specs.declared.cases.Cause.{Cause}
use Rattle.hc_service.specs.declared.numbers.Numbers.{Numbers}
use Rattle.hc_service.specs.Numbers.{noted}
use Rattle.hc_service.specs.Reactions.{forward_alone, forward_anew}
use Rattle.hc_service.specs.Replying.{Wanted}
use Rattle.hc_service.specs.Sending.{reply_actions}
use Rattle.hc_service.specs.State.{Connection, Table}
use Rattle.hc_reactions.specs.declared.sending.Addressee.{Addressee}
use Rattle.hc_core.specs.declared.answering.HeldExchange.{HeldExchange}
use Rattle.hc_core.specs.declared.desk.Desk.{Desk}
use Rattle.hc_open.specs.declared.links.Client.{Client}
use Rattle.hc_core.specs.Ending.{GivesForwardAnew, GivesReply, SendsAnew, addressee_of, is_last, wanted_of}
use Rattle.hc_core.specs.Reading.{SendsReply}
use Rattle.hc_core.specs.Standing.{at_desk}
use Rattle.hc_open.specs.Links.{AreClients, IsIdle}

-- what follows from an `Ok` follows from the same `Ok`
pub on_ok_by : {A E : Type 0} (r : Result A E) (P Q : Type 0) → (P → Q) → OnOk r P → OnOk r Q
on_ok_by (Ok x) P Q use_it p = use_it p
on_ok_by (Err e) P Q use_it p = tt

-- where it is an `Ok`, what holds on an `Ok` holds
pub of_ok : {A E : Type 0} (r : Result A E) (P : Type 0) → OnOk r P → IsOk r → P
of_ok (Ok x) P p ok = p
of_ok (Err e) P p ok = absurd (cc)

pub always_ok : {A E : Type 0} (r : Result A E) (P : Type 0) → P → OnOk r P
always_ok (Ok x) P holds = holds
always_ok (Err e) P holds = tt

pub when_ok : {A E : Type 0} (r : Result A E) (P : Type 0) → (IsOk r → P) → OnOk r P
when_ok (Ok x) P holds = holds refl
when_ok (Err e) P holds = tt

-- the reply that was wanted, as it closes the connection where it is the last
pub wanted_with : (S H : Type 0) (d : Desk S H) (w : HeldExchange) (IsSo : Wanted → Type 0) (closes : Bool) → closes ≡ is_last d.numbers w
    → IsSo (record { name = d.name; moment = d.numbers.moment; asked = w.exchange.request; closes = closes }) → IsSo (wanted_of {S = S} {H = H} d w)
wanted_with S H d w IsSo closes same is =
    subst (λ (b : Bool). IsSo (record { name = d.name; moment = d.numbers.moment; asked = w.exchange.request; closes = b })) same is

-- the reply is the one that was decided, and goes out behind which the connection closes where it is the last
pub gives_reply : (S H : Type 0) (w : HeldExchange) (decides : Message ResponseHead → Holdings → Holdings → Type 0) (before after : List Action) (d new : Desk S H) (store : Holdings)
    (closes : Bool) (reply : Message ResponseHead) → closes ≡ is_last d.numbers w → decides reply d.store store
    → SendsReply {S = S} {H = H} w closes reply (at_desk before (record { alloc = d.alloc; incidents = d.incidents; name = d.name; numbers = d.numbers; clients = d.clients; exchanges = d.exchanges; links = d.links; store = store })) (at_desk after new)
    → GivesReply {S = S} {H = H} w decides (at_desk before d) (at_desk after new)
gives_reply S H w decides before after d new store closes reply closes_is decided sends = record {
  reply = reply;
  decided = subst (λ (h : Holdings). decides reply d.store h) (sym sends.store) decided;
  replies = record {
    numbers = sends.replies.numbers;
    clients = λ connections k are is.
        subst (λ (b : Bool). AreClients new.clients (cond b connections (insert connections w.exchange.connection k))) closes_is
        (sends.replies.clients connections k are is);
    keeps = record { name = sends.replies.keeps.name; exchanges = sends.replies.keeps.exchanges; links = sends.replies.keeps.links };
    actions = sends.replies.actions
        ∙ ap (λ (b : Bool). before ++ reply_actions w.number d.numbers.moment (is_head w.exchange.request.method) w.exchange.connection b reply) closes_is;
  };
}

-- the reply goes out to the addressee, and nothing else changes
pub sends_reply : (S H : Type 0) (w : HeldExchange) (to : Addressee) (closes : Bool) (reply : Message ResponseHead) (before after : List Action) (d : Desk S H) (numbers : Numbers) (clients : BTreeMap ℕ Client)
    → to ≡ addressee_of w closes → numbers ≡ noted d.numbers
    → ((connections : Table Connection) (k : Connection) → AreClients d.clients connections → IsIdle w.client k
    → AreClients clients (cond to.closes connections (insert connections to.connection k)))
    → after ≡ before ++ reply_actions to.exchange d.numbers.moment to.to_head to.connection to.closes reply
    → SendsReply {S = S} {H = H} w closes reply (at_desk before d) (at_desk after (record { alloc = d.alloc; incidents = d.incidents; name = d.name; numbers = numbers; clients = clients; exchanges = d.exchanges; links = d.links; store = d.store }))
sends_reply S H w to closes reply before after d numbers clients to_is numbers_are clients_are actions_are = record {
  replies = record {
    numbers = numbers_are;
    clients = λ connections k are is.
        subst (λ (t : Addressee). AreClients clients (cond t.closes connections (insert connections t.connection k))) to_is
        (clients_are connections k are is);
    keeps = record { name = refl; exchanges = refl; links = refl };
    actions = actions_are
        ∙ ap (λ (t : Addressee). before ++ reply_actions t.exchange d.numbers.moment t.to_head t.connection t.closes reply) to_is;
  };
  store = refl;
}

-- the request goes to the origin anew, as was decided
pub gives_anew : (S H : Type 0) (w : HeldExchange) (why : Cause) (decides : Holdings → Holdings → Type 0) (before after : List Action) (d new : Desk S H) (store : Holdings)
    → decides d.store store
    → SendsAnew {S = S} {H = H} w why (at_desk before (record { alloc = d.alloc; incidents = d.incidents; name = d.name; numbers = d.numbers; clients = d.clients; exchanges = d.exchanges; links = d.links; store = store })) (at_desk after new)
    → GivesForwardAnew {S = S} {H = H} w why decides (at_desk before d) (at_desk after new)
gives_anew S H w why decides before after d new store decided sends = record {
  decided = subst (λ (h : Holdings). decides d.store h) (sym sends.store) decided;
  asks = record {
    name = sends.asks.name;
    numbers = sends.asks.numbers;
    clients = sends.asks.clients;
    exchanges = sends.asks.exchanges;
    links = sends.asks.links;
    actions = sends.asks.actions;
  };
}

pub anew_is : (name name' : List ℕ) (target target' : Target) (asked : RequestHead) (request : Message RequestHead) → request ≡ forward_anew name target asked → name ≡ name'
    → target ≡ target' → request ≡ forward_anew name' target' asked
anew_is name name' target target' asked request is same-name same-target = is ∙ (λ i. forward_anew (same-name i) (same-target i) asked)

pub alone_is : (name name' : List ℕ) (target : Target) (asked : RequestHead) (request : Message RequestHead) → request ≡ forward_alone name target asked → name ≡ name'
    → request ≡ forward_alone name' target asked
alone_is name name' target asked request is same-name = is ∙ (λ i. forward_alone (same-name i) target asked)

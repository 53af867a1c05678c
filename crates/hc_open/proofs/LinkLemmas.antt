-- What is open at a cache's links.
use Rattle.std.proofs.Common.{◌≡◌, ℕ, Bool, false, cond, [], Option, Some, None, refl, sym, subst}
use Rattle.std.specs.BTreeMap.{BTreeMap}
use Rattle.hc_head.specs.declared.head.RequestHead.{RequestHead}
use Rattle.hc_head.specs.declared.head.Target.{Target}
use Rattle.hc_head.specs.Methods.{is_head}
use Rattle.hc_incoming.specs.declared.responses.ResponseReader.{ResponseReader}
use Rattle.hc_incoming.specs.ResponseReading.{WasGiven}
use Rattle.hc_service.specs.declared.open.Purpose.{Purpose}
use Rattle.hc_service.specs.State.{Table, Connection}
use Rattle.hc_service.specs.Turns.{sent_forward}
use Rattle.hc_open.specs.declared.links.Client.{Client}
use Rattle.hc_open.specs.Links.{AreClients, IsClient, IsIdle, IsLink, IsUntouched, WillAwait}

-- a connection goes on behind a reply
pub idle : (client : Client) (k : Connection) → IsIdle client k → IsClient (record { reader = client.reader; exchange = None; leaves = client.leaves }) k
idle client k is = record {
  reads = is.reads;
  untouched = subst (λ (e : Option ℕ). IsUntouched e client.reader k.unread) (sym is.exchange) tt;
  exchange = sym is.exchange;
  leaves = is.leaves;
}

-- a request awaits its reply on a connection
pub will_await : (client : Client) (number : ℕ) (k : Connection) → WillAwait client number k
    → IsClient (record { reader = client.reader; exchange = Some number; leaves = client.leaves }) k
will_await client number k is = record {
  reads = is.reads.agrees;
  untouched = subst (λ (e : Option ℕ). IsUntouched e client.reader k.unread) (sym is.exchange_is) is.reads.all_unread;
  exchange = sym is.exchange_is;
  leaves = is.leaves;
}

-- a connection that doesn't close is there
pub stays : (closes : Bool) (clients : BTreeMap ℕ Client) (gone kept : Table Connection) → closes ≡ false → AreClients clients kept → AreClients clients (cond closes gone kept)
stays closes clients gone kept is are = subst (λ (b : Bool). AreClients clients (cond b gone kept)) (sym is) are

-- a forward that was just sent
pub linked : (request : RequestHead) (target : Target) (moment : ℕ) (aim : Purpose) (to_head : Bool) (reader : ResponseReader) → to_head ≡ is_head request.method → WasGiven to_head reader []
    → IsLink (record { forward = record { request = request; target = target; moment = moment; purpose = aim }; reader = reader }) (sent_forward request target moment aim)
linked request target moment aim to_head reader is agrees = record {
  reads = subst (λ (b : Bool). WasGiven b reader []) is agrees;
  forward = refl;
}

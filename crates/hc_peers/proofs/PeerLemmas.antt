-- What the links of a crowd tell goes on.
use Rattle.std.proofs.Common.{◌≡◌, ℕ, zero, suc, ◌+◌, Bool, true, List, Option, Some, None, Result, Ok, Err, refl, sym, ap, ◌∙◌, subst, arith}
use Rattle.std.proofs.lemmas.Bool.Decides.{nat_tests}
use Rattle.std.proofs.lemmas.List.{nil_from_length}
use Rattle.std.specs.BTreeMap.{is_at}
use Rattle.std.specs.Map.{lookup}
use Rattle.std.specs.Ordering.{nat_cmp}
use Rattle.std.specs.declared.alloc.AllocError.{AllocError}
use Rattle.hc_service.specs.declared.event.Happening.{Happening}
use Rattle.hc_service.specs.declared.event.Happening.TheVariants.{ClientOpened, ClientBytes, ClientEnd, OriginBytes, OriginEnd, OriginFailed, Stopping}
use Rattle.hc_order.specs.declared.occurrence.Reason.{Reason}
use Rattle.hc_order.specs.declared.occurrence.Reason.TheVariants.{Peer, Replies, Reads, Stop, Late, Reset, Held, Displaced, Abandoned}
use Rattle.hc_service.specs.Numbers.{is_later}
use Rattle.hc_links.specs.declared.happened.Happened.{Happened}
use Rattle.hc_links.specs.Batches.{NothingIsOpen}
use Rattle.hc_links.specs.Telling.{TellsIfOk}
use Rattle.hc_links.specs.Telling.{HasWaited}
use Rattle.hc_order.specs.declared.receiver.Receiver.TheVariants.{Client, Origin}
use Rattle.hc_order.specs.Log.{Move}
use Rattle.hc_order.specs.Passages.{passage_of}
use Rattle.hc_order.proofs.PassageLemmas.{client_is_open, origin_is_open}
use Rattle.hc_peers.specs.declared.peers.Peers.{Peers}
use Rattle.hc_peers.specs.Forwards.{IsForwardAt}
use Rattle.hc_peers.specs.Clients.{IsClientAt}
use Rattle.hc_peers.specs.Heard.{HeardInTurn}
use Rattle.hc_peers.specs.Peers.{ArePeers, Bounds, NoLinkIsLeft, number_given}

-- ---- numbers

-- the next number was given last
pub given_next : (n m : ℕ) → m ≡ n + 1 → number_given m ≡ Some m
given_next n zero is = absurd (omega arith)
given_next n (suc m) is = refl

-- it is later than the one before
pub later_number : (n m : ℕ) → m ≡ n + 1 → is_later m (number_given n) ≡ true
later_number zero m is = refl
later_number (suc n) m is = grind (arith, nat_tests, is)

-- ---- turns

-- what has waited by some answers has waited by others that follow from them
pub waited_by : (P Q : ℕ → Bool → Type 0) (of : Happening) (reason : Reason) → HasWaited P of reason → ((c : ℕ) (answer : Bool) → P c answer → Q c answer) → HasWaited Q of reason
waited_by P Q (ClientBytes c octets) reason waited leads = leads c _ waited
waited_by P Q (ClientEnd c) Peer waited leads = leads c _ waited
waited_by P Q (ClientEnd c) Stop waited leads = leads c _ waited
waited_by P Q (ClientEnd c) Replies waited leads = tt
waited_by P Q (ClientEnd c) Reads waited leads = tt
waited_by P Q (ClientEnd c) Late waited leads = tt
waited_by P Q (ClientEnd c) Reset waited leads = tt
waited_by P Q (ClientEnd c) Held waited leads = tt
waited_by P Q (ClientEnd c) Displaced waited leads = leads c _ waited
waited_by P Q (ClientEnd c) Abandoned waited leads = tt
waited_by P Q (ClientOpened c) reason waited leads = tt
waited_by P Q (OriginBytes f octets) reason waited leads = tt
waited_by P Q (OriginEnd f) reason waited leads = tt
waited_by P Q (OriginFailed f) reason waited leads = tt
waited_by P Q Stopping reason waited leads = tt

pub heard_by : (P Q : ℕ → Bool → Type 0) (result : Result (Option Happened) AllocError) → HeardInTurn P result → ((c : ℕ) (answer : Bool) → P c answer → Q c answer) → HeardInTurn Q result
heard_by P Q (Ok (Some happened)) waited leads = waited_by P Q happened.of happened.reason waited leads
heard_by P Q (Ok None) waited leads = tt
heard_by P Q (Err refused) waited leads = tt

-- ---- what is heard

-- what is told of what was heard is told still, where whatever was told is
pub told_on : {S : Type 0} (has_given has_got : S → List ℕ → Type 0) (bounds : Bounds) (before after : Peers S)
    → ((log : List Move) → ArePeers has_given has_got bounds before log → ArePeers has_given has_got bounds after log)
    → (result : Result (Option Happened) AllocError) (log : List Move) → TellsIfOk (ArePeers has_given has_got bounds before) result log → TellsIfOk (ArePeers has_given has_got bounds after) result log
told_on has_given has_got bounds before after goes_on (Ok (Some happened)) log told = λ moment. goes_on _ (told moment)
told_on has_given has_got bounds before after goes_on (Ok None) log told = goes_on log told
told_on has_given has_got bounds before after goes_on (Err refused) log told = goes_on log told

-- ---- what is left

-- where no link is left nothing is open
pub none_is_open : {S : Type 0} (has_given has_got : S → List ℕ → Type 0) (bounds : Bounds) (peers : Peers S) (log : List Move) → NoLinkIsLeft peers → ArePeers has_given has_got bounds peers log
    → NothingIsOpen log
none_is_open has_given has_got bounds peers log none told = (
  λ c. sym (client_is_open c log) ∙ subst (λ kept. IsClientAt has_given has_got kept (passage_of (Client c) log))
      (ap (lookup (is_at (nat_cmp c))) (nil_from_length peers.clients.links.entries none.clients)) (told.clients c),
  λ f. sym (origin_is_open f log) ∙ subst (λ kept. IsForwardAt has_given has_got kept (passage_of (Origin f) log))
      (ap (lookup (is_at (nat_cmp f))) (nil_from_length peers.forwards.links.entries none.forwards)) (told.forwards f),
)

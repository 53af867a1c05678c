-- The link of a forward is taken out: what is left, and what came on it.
use Rattle.std.proofs.Common.{◌≡◌, ◌⊎◌, ℕ, Bool, true, false, List, ◌++◌, Option, Some, None, Result, Ok, Err, IfOk, ap, refl, sym, subst, inl, inr, ◌∙◌}
use Rattle.std.specs.BTreeMap.{get as kept_at}
use Rattle.std.specs.FinMap.{get, remove}
use Rattle.std.specs.Prelude.{is_some, not}
use Rattle.std.specs.Ordering.{nat_cmp}
use Rattle.hc_head.specs.declared.head.ResponseHead.{ResponseHead}
use Rattle.hc_head.specs.Methods.{is_head}
use Rattle.hc_framing.specs.declared.message.Message.{Message}
use Rattle.hc_incoming.specs.declared.responses.ResponseReader.{ResponseReader}
use Rattle.hc_incoming.specs.ResponseReading.{WasGiven}
use Rattle.hc_service.specs.declared.open.OpenForward.{OpenForward}
use Rattle.hc_service.specs.declared.open.Purpose.{Purpose}
use Rattle.hc_service.specs.declared.open.Purpose.TheVariants as purpose
use Rattle.hc_service.specs.declared.settings.CoreSettings.{CoreSettings}
use Rattle.hc_service.specs.Reactions.{is_for_store}
use Rattle.hc_service.specs.State.{State, Awaited, exchange_for}
use Rattle.hc_service.specs.Turns.{Failure, HasFailure, IsAnswer, after_origin_octets}
use Rattle.hc_core.specs.declared.desk.Desk.{Desk}
use Rattle.hc_open.specs.declared.links.Link.{Link}
use Rattle.hc_open.specs.declared.open_links.OpenLinks.{OpenLinks}
use Rattle.hc_open.specs.Links.{AreLinks, IsLink}
use Rattle.hc_core.specs.Standing.{DeskStandsFor, without_forward}
use Rattle.hc_open.proofs.TableLemmas.{found_for, found_none}

-- one of two ways
pub left_way : {A E : Type 0} (r : Result A E) (P Q : A → Type 0) → IfOk r P → IfOk r (λ x. P x ⊎ Q x)
left_way (Ok x) P Q p = inl p
left_way (Err e) P Q p = tt

pub right_way : {A E : Type 0} (r : Result A E) (P Q : A → Type 0) → IfOk r Q → IfOk r (λ x. P x ⊎ Q x)
right_way (Ok x) P Q q = inr q
right_way (Err e) P Q q = tt

one_is : (a b : Awaited) → Some a ≡ Some b → a ≡ b
one_is a b e = cc

-- a forward that was taken out is the one that was there
pub taken_link : (link : Link) (o : Option Awaited) (a awaited : Awaited) → o ≡ Some a → o ≡ Some awaited → IsLink link a → IsLink link awaited
taken_link link o a awaited is there like = subst (IsLink link) (one_is a awaited (sym is ∙ there)) like

-- it was there
pub none_or_some : (o : Option Awaited) (a : Awaited) → o ≡ None → o ≡ Some a → ⊥
none_or_some o a none some = cc

module _ (S H : Type 0) (settings : CoreSettings) (d : Desk S H) (s : State) (f : ℕ) (awaited : Awaited)
    (stands : DeskStandsFor {S = S} {H = H} settings d s) (there : get s.forwards f ≡ Some awaited) where
  -- its link is there
  pub has_link : kept_at nat_cmp d.links.by_number f ≡ None → ⊥
  has_link none = none_or_some (get s.forwards f) awaited (found_none IsLink _ _ (stands.links.by_number.at f) none) there

  pub link_of : (link : Link) → kept_at nat_cmp d.links.by_number f ≡ Some link → IsLink link awaited
  link_of link is = found_for IsLink _ _ link awaited (stands.links.by_number.at f) is there

  -- without it, what is kept is that of the state without the forward
  pub stands_without : (links : OpenLinks) → AreLinks links (remove s.forwards f)
      → DeskStandsFor {S = S} {H = H} settings (record { alloc = d.alloc; incidents = d.incidents; name = d.name; numbers = d.numbers; clients = d.clients; exchanges = d.exchanges; links = links; store = d.store })
      (without_forward f s)
  stands_without links are = record {
    name = stands.name;
    numbers = stands.numbers;
    clients = stands.clients;
    exchanges = stands.exchanges;
    links = are;
    store = stands.store;
    in_time = stands.in_time;
  }

module _ (link : Link) (awaited : Awaited) (is : IsLink link awaited) where
  -- octets came on it
  pub received_link : (octets : List ℕ) (reader : ResponseReader) → WasGiven (is_head awaited.forward.request.method) reader (awaited.received ++ octets)
      → IsLink (record { forward = link.forward; reader = reader }) (after_origin_octets octets awaited)
  received_link octets reader agrees = record { reads = agrees; forward = is.forward }

  pub same_forward : awaited.forward ≡ link.forward
  same_forward = sym is.forward

  pub answer_of_link : (ended : Bool) (heard : List ℕ) (response : Message ResponseHead) → IsAnswer ended (is_head awaited.forward.request.method) heard response
      → IsAnswer ended (is_head link.forward.request.method) heard response
  answer_of_link ended heard response arrives = subst (λ (x : OpenForward). IsAnswer ended (is_head x.request.method) heard response) same_forward arrives

  pub failure_of_link : (how : Failure) (heard : List ℕ) → HasFailure how (is_head awaited.forward.request.method) heard
      → HasFailure how (is_head link.forward.request.method) heard
  failure_of_link how heard fails = subst (λ (x : OpenForward). HasFailure how (is_head x.request.method) heard) same_forward fails

-- it is for the store alone where it is for no exchange
for_no_exchange : (aim : Purpose) (answer : Bool) → is_some (exchange_for aim) ≡ not answer → answer ≡ is_for_store aim
for_no_exchange purpose.Background true is = refl
for_no_exchange purpose.Background false is = absurd cc
for_no_exchange (purpose.Reply e why kind) true is = absurd cc
for_no_exchange (purpose.Reply e why kind) false is = refl

pub is_alone : (link : Link) (awaited : Awaited) (answer : Bool) → IsLink link awaited → is_some (exchange_for link.forward.purpose) ≡ not answer
    → answer ≡ is_for_store awaited.forward.purpose
is_alone link awaited answer is none = for_no_exchange link.forward.purpose answer none ∙ ap (λ (x : OpenForward). is_for_store x.purpose) is.forward

-- What a request gets at once.
use Rattle.std.proofs.Common.{◌≡◌, ◌∙◌, ℕ, Bool, true, false, Option, Some, None, IfOk, Ok, Err, Result, refl, ap, sym, subst, cond, ◌&&◌, not}
use Rattle.hc_head.specs.declared.head.RequestHead.{RequestHead}
use Rattle.hc_head.specs.declared.head.Target.{Target}
use Rattle.hc_framing.specs.declared.message.Message.{Message}
use Rattle.hc_update.specs.declared.stored.Stored.{Stored}
use Rattle.hc_store.specs.Entries.{Holdings, knows}
use Rattle.hc_store.proofs.KeyLemmas.{unknown}
use Rattle.hc_store.proofs.WithinLemmas.{unknown_stays}
use Rattle.hc_service.specs.declared.cases.Case.{Case as GivenCase}
use Rattle.hc_service.specs.declared.cases.Cause.{Cause}
use Rattle.hc_service.specs.Cases.{Case, case_before_store, case_by_store, case_of, may_wait}
use Rattle.hc_service.specs.Choices.{Finds}
use Rattle.hc_service.specs.Reactions.{Reacts, ReactsBy, ReactsByStore, ReactsJoined, ReactsUnlessJoined, chosen_reaction, forward_reaction}
use Rattle.hc_service.specs.Reactions.Reaction.{Waits}
use Rattle.hc_service.specs.Joining.{is_joinable, IsLeast}
use Rattle.hc_service.specs.Replying.{Wanted}
use Rattle.hc_service.specs.State.{Awaited, OpenNow, Table}
use Rattle.hc_reactions.specs.declared.reacting.Reaction.{Reaction}
use Rattle.hc_reactions.specs.Reacting.{owed_reaction}

-- a case of the code, where it is known which it is
pub chosen_by_case : {E : Type 0} (wanted : Wanted) (target : Target) (request : Message RequestHead) (forwards : Table Awaited) (chosen : Option Stored)
    (given known : GivenCase) (answer : Result Reaction E)
    → given ≡ known
    → IfOk answer (λ reaction. owed_reaction reaction ≡ chosen_reaction wanted target request forwards chosen (case_of known))
    → IfOk answer (λ reaction. owed_reaction reaction ≡ chosen_reaction wanted target request forwards chosen (case_of given))
chosen_by_case wanted target request forwards chosen given known answer is gives =
    subst (λ (k : GivenCase). IfOk answer (λ reaction. owed_reaction reaction ≡ chosen_reaction wanted target request forwards chosen (case_of k))) (sym is) gives

-- by what is stored: the store's answer decides the case, and the case what the request gets
pub reacts_by_store : {E : Type 0} (wanted : Wanted) (target : Target) (request : Message RequestHead) (forwards : Table Awaited) (old new : Holdings)
    (chosen : Option Stored) (known : Bool) (moment : ℕ) (case : Case) (answer : Result Reaction E)
    → Finds target request.head.fields old chosen new
    → known ≡ knows target old.entries
    → moment ≡ wanted.moment
    → case ≡ case_by_store request.head.fields known chosen moment
    → IfOk answer (λ reaction. owed_reaction reaction ≡ chosen_reaction wanted target request forwards chosen case)
    → IfOk answer (λ reaction. ReactsByStore (record { request = request; target = target; wanted = wanted }) forwards old (owed_reaction reaction) new)
reacts_by_store wanted target request forwards old new chosen known moment case (Ok reaction) finds is this decides gives = record {
  chosen = chosen;
  finds = finds;
  reaction_is = gives
      ∙ ap (λ (c : Case). chosen_reaction wanted target request forwards chosen c)
      (decides
      ∙ ap (λ (k : Bool). case_by_store request.head.fields k chosen moment) is
      ∙ ap (λ (m : ℕ). case_by_store request.head.fields (knows target old.entries) chosen m) this);
}
reacts_by_store wanted target request forwards old new chosen known moment case (Err e) finds is this decides gives = gives

-- a case that holds before the store is asked
pub reacts_before : {E : Type 0} (wanted : Wanted) (target : Target) (request : Message RequestHead) (underway : OpenNow) (old new : Holdings)
    (why : Cause) (answer : Result Reaction E)
    → Some why ≡ case_before_store request
    → new ≡ old
    → IfOk answer (λ reaction. owed_reaction reaction ≡ forward_reaction wanted target request None why)
    → IfOk answer (λ reaction. Reacts (record { request = request; target = target; wanted = wanted }) underway old (owed_reaction reaction) new)
reacts_before wanted target request underway old new why (Ok reaction) is same gives =
    subst (λ (case : Option Cause). ReactsBy case (record { request = request; target = target; wanted = wanted }) underway old (owed_reaction reaction) new) is (gives, same)
reacts_before wanted target request underway old new why (Err e) is same gives = gives

-- none does, so the request waits, or the store is asked
pub reacts_asking : {E : Type 0} (wanted : Wanted) (target : Target) (request : Message RequestHead) (underway : OpenNow) (old new : Holdings)
    (answer : Result Reaction E)
    → None ≡ case_before_store request
    → IfOk answer (λ reaction. ReactsUnlessJoined (record { request = request; target = target; wanted = wanted }) underway old (owed_reaction reaction) new)
    → IfOk answer (λ reaction. Reacts (record { request = request; target = target; wanted = wanted }) underway old (owed_reaction reaction) new)
reacts_asking wanted target request underway old new (Ok reaction) is gives =
    subst (λ (case : Option Cause). ReactsBy case (record { request = request; target = target; wanted = wanted }) underway old (owed_reaction reaction) new) is gives
reacts_asking wanted target request underway old new (Err e) is gives = gives

-- who waits knows nothing of the target
waits_unknown : (joinable known : Bool) (least : Option ℕ) (f : ℕ) → Some f ≡ cond (joinable && not known) least None → known ≡ false
waits_unknown joinable false least f is = refl
waits_unknown true true least f is = absurd (cc)
waits_unknown false true least f is = absurd (cc)

-- it waits for the forward of another one: nothing is stored of its target, so the store that was asked is as it was
pub reacts_joined : (wanted : Wanted) (target : Target) (request : Message RequestHead) (underway : OpenNow) (least : Option ℕ) (old new : Holdings)
    (chosen : Option Stored) (known : Bool) (f : ℕ)
    → IsLeast target underway least
    → Finds target request.head.fields old chosen new
    → known ≡ knows target old.entries
    → Some f ≡ cond (may_wait request.head known) least None
    → ReactsUnlessJoined (record { request = request; target = target; wanted = wanted }) underway old (Waits f) new
reacts_joined wanted target request underway least old new chosen known f is_least finds this is = record {
  least = least;
  is_least = is_least;
  reacts = subst (λ (o : Option ℕ). ReactsJoined o (record { request = request; target = target; wanted = wanted }) underway.forwards old (Waits f) new)
      (is ∙ ap (λ (k : Bool). cond (may_wait request.head k) least None) this) (
        refl,
        finds.1 ∙ sym (unknown_stays old target (unknown target old.entries
            (sym this ∙ waits_unknown (is_joinable request.head) known least f is))),
      );
}

-- it waits for none, and what the store chose decides
pub reacts_alone : {E : Type 0} (wanted : Wanted) (target : Target) (request : Message RequestHead) (underway : OpenNow) (least : Option ℕ) (old new : Holdings)
    (known : Bool) (answer : Result Reaction E)
    → IsLeast target underway least
    → known ≡ knows target old.entries
    → None ≡ cond (may_wait request.head known) least None
    → IfOk answer (λ reaction. ReactsByStore (record { request = request; target = target; wanted = wanted }) underway.forwards old (owed_reaction reaction) new)
    → IfOk answer (λ reaction. ReactsUnlessJoined (record { request = request; target = target; wanted = wanted }) underway old (owed_reaction reaction) new)
reacts_alone wanted target request underway least old new known (Ok reaction) is_least this is gives = record {
  least = least;
  is_least = is_least;
  reacts = subst (λ (o : Option ℕ). ReactsJoined o (record { request = request; target = target; wanted = wanted }) underway.forwards old (owed_reaction reaction) new)
      (is ∙ ap (λ (k : Bool). cond (may_wait request.head k) least None) this) gives;
}
reacts_alone wanted target request underway least old new known (Err e) is_least this is gives = gives

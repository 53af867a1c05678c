-- A response may be stored where nothing forbids it.
use Rattle.std.proofs.Common.{◌≡◌, ◌&&◌, ◌||◌, Bool, true, false, not, refl, ap, sym, ◌∙◌}
use Rattle.std.specs.Prelude.{codes}
use Rattle.hc_head.specs.declared.head.RequestHead.{RequestHead}
use Rattle.hc_head.specs.declared.head.ResponseHead.{ResponseHead}
use Rattle.hc_head.specs.Methods.{is_get}
use Rattle.hc_fresh.specs.Lifetimes.{says}
use Rattle.hc_rules.specs.Storing.{has_authorization, invites_storing, is_not_private, is_storable, is_understood_if_asked, may_store, no_store_permits, permits_authorized}
use Rattle.hc_use.specs.declared.storing.Forbids.{Forbids}
use Rattle.hc_use.specs.Forbidding.{forbids_nothing, forbids_of}

-- the same of what the tests answer
each : (get no_store storable understood permits shared authorized permitted invites : Bool)
    → ((get && not no_store) && storable && understood && permits && shared && (not authorized || permitted) && invites)
    ≡ (not (not get || no_store || (authorized && not permitted)) && not (not storable || not understood || not permits || not shared) && not (not invites))
each false n s u p h a q i = refl
each true true s u p h a q i = refl
each true false false u p h true false i = refl
each true false true false p h true false i = refl
each true false true true false h true false i = refl
each true false true true true false true false i = refl
each true false true true true true true false i = refl
each true false false u p h true true i = refl
each true false true false p h true true i = refl
each true false true true false h true true i = refl
each true false true true true false true true i = refl
each true false true true true true true true false = refl
each true false true true true true true true true = refl
each true false false u p h false q i = refl
each true false true false p h false q i = refl
each true false true true false h false q i = refl
each true false true true true false false q i = refl
each true false true true true true false q false = refl
each true false true true true true false q true = refl

pub nothing_forbids : (forward : RequestHead) (response : ResponseHead) (forbids : Forbids) → forbids ≡ forbids_of forward response
    → may_store forward response ≡ forbids_nothing forbids
nothing_forbids forward response forbids is =
    each (is_get forward.method) (says (codes "no-store") forward.fields) (is_storable response.status) (is_understood_if_asked response)
    (no_store_permits response.fields) (is_not_private response.fields) (has_authorization forward) (permits_authorized response.fields) (invites_storing response)
    ∙ ap forbids_nothing (sym is)

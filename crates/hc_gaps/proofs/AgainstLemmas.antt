-- What is left where neither the forward nor the 304 says anything against it, and the response selects the forward.
use Rattle.std.proofs.Common.{◌≡◌, ◌&&◌, ◌==◌, Bool, true, false, not, Some, None, ap, sym, ◌∙◌}
use Rattle.std.specs.Prelude.{codes, if◌then◌else◌}
use Rattle.std.specs.Option.{option_or}
use Rattle.hc_head.specs.declared.head.RequestHead.{RequestHead}
use Rattle.hc_head.specs.declared.head.ResponseHead.{ResponseHead}
use Rattle.hc_head.specs.Methods.{is_get}
use Rattle.hc_head.specs.Statuses.{not_modified}
use Rattle.hc_fresh.specs.Lifetimes.{says}
use Rattle.hc_rules.specs.Selecting.{selects}
use Rattle.hc_update.specs.declared.stored.Stored.{Stored}
use Rattle.hc_update.specs.Identifying.{identifies, validators_agree}
use Rattle.hc_gaps.specs.declared.against.Against.TheVariants as against
use Rattle.hc_gaps.specs.declared.against.Telling.{Telling}
use Rattle.hc_gaps.specs.Against.{against_of, had_of, said_of, telling_of}

-- the validators are what fails
validators_fail : (get asked private store selected agree same : Bool)
    → (if not get then Some against.Method else
    (if asked then Some against.ForwardNoStore else
    (if private then Some against.Private else
    (if store then Some against.NoStore else None)))) ≡ None
    → selected ≡ true → same ≡ true
    → ((same && not private && not store) && (get && not asked) && selected && agree) ≡ false → agree ≡ false
validators_fail false asked private store selected agree same none sel is fails = absurd (cc)
validators_fail true true private store selected agree same none sel is fails = absurd (cc)
validators_fail true false true store selected agree same none sel is fails = absurd (cc)
validators_fail true false false true selected agree same none sel is fails = absurd (cc)
validators_fail true false false false false agree same none sel is fails = absurd (cc)
validators_fail true false false false true agree false none sel is fails = absurd (cc)
validators_fail true false false false true agree true none sel is fails = fails

choice : (selected agree : Bool) (gap due : Telling) → selected ≡ true → agree ≡ false → gap ≡ due
    → Some (against.Validators gap) ≡ (if not selected then Some against.Unselected else (if agree then None else Some (against.Validators due)))
choice false agree gap due sel fails same = absurd (cc)
choice true true gap due sel fails same = absurd (cc)
choice true false gap due sel fails same = ap (λ (g : Telling). Some (against.Validators g)) same

pub what_is_left : (state : Stored) (forward : RequestHead) (response : ResponseHead) (gap : Telling) → response.status ≡ not_modified
    → said_of forward response ≡ None → selects state.fields state.request.fields forward.fields ≡ true
    → identifies state forward response ≡ false → gap ≡ telling_of forward.fields response.fields
    → Some (against.Validators gap) ≡ against_of state forward response
what_is_left state forward response gap is none selected fails same =
    choice (selects state.fields state.request.fields forward.fields) (validators_agree state.fields forward.fields response.fields)
    gap (telling_of forward.fields response.fields) selected
    (validators_fail (is_get forward.method) (says (codes "no-store") forward.fields) (says (codes "private") response.fields) (says (codes "no-store") response.fields)
    (selects state.fields state.request.fields forward.fields) (validators_agree state.fields forward.fields response.fields) (response.status == not_modified)
    none selected (ap (λ s. s == not_modified) is) fails)
    same
    ∙ sym (ap (λ said. option_or said (had_of state forward response)) none)

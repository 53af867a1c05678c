-- Why a 304 isn't about a stored response (after RFC 9111 section 4.3.4).
use Rattle.std.specs.Prelude.{not, List, Option, Some, None, is_some, codes, if◌then◌else◌}
use Rattle.std.specs.Option.{option_or}
use Rattle.hc_fields.specs.declared.fields.Field.{Field}
use Rattle.hc_fields.specs.Values.{has_name}
use Rattle.hc_head.specs.declared.head.RequestHead.{RequestHead}
use Rattle.hc_head.specs.declared.head.ResponseHead.{ResponseHead}
use Rattle.hc_head.specs.Methods.{is_get}
use Rattle.hc_fresh.specs.Lifetimes.{says}
use Rattle.hc_rules.specs.Selecting.{selects}
use Rattle.hc_rules.specs.Validators.{tag_of, last_modified_of}
use Rattle.hc_update.specs.declared.stored.Stored.{Stored}
use Rattle.hc_update.specs.Identifying.{validators_agree}
use Rattle.hc_gaps.specs.declared.against.Against.{Against}
use Rattle.hc_gaps.specs.declared.against.Against.TheVariants as against
use Rattle.hc_gaps.specs.declared.against.Telling.{Telling}
use Rattle.hc_gaps.specs.declared.against.Telling.TheVariants.{Tag, Modified, AskedTag, AskedModified}

-- ---- the field that tells which response a 304 is about

-- its tag, else its Last-Modified, else what its forward asked for
abbrev pub telling_of : List Field → List Field → Telling
telling_of forwarded received =
    if is_some (tag_of received) then Tag else
    (if is_some (last_modified_of received) then Modified else
    (if has_name (codes "if-none-match") forwarded then AskedTag else AskedModified))

-- ---- what stands against a 304

-- what the forward or the 304 says
abbrev pub said_of : RequestHead → ResponseHead → Option Against
said_of forward response =
    if not (is_get forward.method) then Some against.Method else
    (if says (codes "no-store") forward.fields then Some against.ForwardNoStore else
    (if says (codes "private") response.fields then Some against.Private else
    (if says (codes "no-store") response.fields then Some against.NoStore else None)))

-- what the response says: that it doesn't select the forward, or that it has other validators
abbrev pub had_of : Stored → RequestHead → ResponseHead → Option Against
had_of state forward response =
    if not (selects state.fields state.request.fields forward.fields) then Some against.Unselected else
    (if validators_agree state.fields forward.fields response.fields then None else
    Some (against.Validators (telling_of forward.fields response.fields)))

-- the first of these
abbrev pub against_of : Stored → RequestHead → ResponseHead → Option Against
against_of state forward response = option_or (said_of forward response) (had_of state forward response)

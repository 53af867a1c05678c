-- What the cache sends to the origin has the target of the request that it makes it of.
use Rattle.std.proofs.Common.{◌≡◌, ◌≢◌, ℕ, Bool, true, false, not, ◌||◌, List, ◌++◌, Option, Some, None, refl}
use Rattle.std.specs.Prelude.{codes}
use Rattle.std.specs.Str.{bytes_eq}
use Rattle.hc_fields.specs.declared.fields.Field.{Field}
use Rattle.hc_fields.specs.Values.{has_name, without}
use Rattle.hc_fields.specs.Connection.{is_named_by_connection}
use Rattle.hc_fields.proofs.ValueLemmas.{name_dropped}
use Rattle.hc_head.specs.declared.head.RequestHead.{RequestHead}
use Rattle.hc_head.specs.declared.head.Target.{Target}
use Rattle.hc_head.specs.declared.head.Version.TheVariants.{Http11}
use Rattle.hc_head.specs.Targets.{HasTarget}
use Rattle.hc_rules.proofs.PassingLemmas.{no_name_fewer, no_name_both}
use Rattle.hc_head.proofs.ForwardLemmas.{same_method, other_method, path_asterisk}
use Rattle.hc_rules.specs.Validators.{tag_of, last_modified_of}
use Rattle.hc_rules.specs.Forwards.{goes_forward, passed_on, without_conditions, via_and_close, condition_by, condition_lines, plain_request, unconditional_request, conditional_request}

-- ---- Host

host_stays : (received : List Field) → goes_forward received (codes "host") ≡ false
host_stays received = go (is_named_by_connection (codes "host") received)
  where
    go : (named : Bool) → not (named || bytes_eq (codes "host") (codes "host") || bytes_eq (codes "host") (codes "expect")) ≡ false
    go true = refl
    go false = refl

-- no Host goes forward
no_host : (received : List Field) → has_name (codes "host") (passed_on received) ≡ false
no_host received = name_dropped (goes_forward received) (codes "host") received (host_stays received)

no_host_asked : (received : List Field) → has_name (codes "host") (without_conditions (passed_on received)) ≡ false
no_host_asked received =
    no_name_fewer (codes "host") (λ f. not (bytes_eq f.name (codes "if-modified-since"))) (without (codes "if-none-match") (passed_on received))
    (no_name_fewer (codes "host") (λ f. not (bytes_eq f.name (codes "if-none-match"))) (passed_on received) (no_host received))

no_host_in_condition : (tag modified : Option (List ℕ)) → has_name (codes "host") (condition_by tag modified) ≡ false
no_host_in_condition (Some tag) modified = refl
no_host_in_condition None (Some modified) = refl
no_host_in_condition None None = refl

-- ---- targets

pub plain_target : (name : List ℕ) (target : Target) (received : RequestHead) → HasTarget received target → HasTarget (plain_request name target received) target
plain_target name target received has =
    same_method received target Http11 (passed_on received.fields ++ via_and_close received.version name) has
    (no_name_both (codes "host") (passed_on received.fields) (via_and_close received.version name) (no_host received.fields) refl)

pub unconditional_target : (name : List ℕ) (target : Target) (received : RequestHead) → HasTarget received target
    → HasTarget (unconditional_request name target received) target
unconditional_target name target received has =
    let lines = without_conditions (passed_on received.fields) in
    same_method received target Http11 (lines ++ via_and_close received.version name) has
    (no_name_both (codes "host") lines (via_and_close received.version name) (no_host_asked received.fields) refl)

pub conditional_target : (name : List ℕ) (target : Target) (received : RequestHead) (stored : List Field) → HasTarget received target
    → received.method ≢ codes "OPTIONS" → HasTarget (conditional_request name target received stored) target
conditional_target name target received stored has method =
    let lines = without_conditions (passed_on received.fields) in
    let condition = condition_lines stored in
    other_method received target (codes "GET") Http11 (lines ++ condition ++ via_and_close received.version name) has
    (λ path. method (path_asterisk received target has path)) refl
    (no_name_both (codes "host") (lines ++ condition) (via_and_close received.version name)
    (no_name_both (codes "host") lines condition (no_host_asked received.fields) (no_host_in_condition (tag_of stored) (last_modified_of stored))) refl)

-- A response may be used with a setting exactly from the seconds on that are told, and where no setting is told, with none.
use Rattle.std.proofs.Common.{◌≡◌, ◌+◌, ◌-◌, ◌&&◌, ◌||◌, ℕ, Bool, true, false, not, max, List, [], ◌∷◌, Option, Some, None, is_some, if◌then◌else◌, refl, ap, sym, ◌∙◌, arith}
use Rattle.std.specs.Prelude.{codes, nat_le, nat_lt, option_map, unwrap_or}
use Rattle.std.specs.List.{slice_get}
use Rattle.std.specs.Option.{option_or}
use Rattle.std.specs.Str.{bytes_eq}
use Rattle.std.proofs.Math.Nat.{zero-max}
use Rattle.std.proofs.lemmas.Bool.{cond-false, or_from, or_parts}
use Rattle.std.proofs.lemmas.Bool.Decides.{nat_tests}
use Rattle.hc_fields.specs.declared.fields.Field.{Field}
use Rattle.hc_fields.specs.Values.{has_name, values_of}
use Rattle.hc_directives.specs.declared.cache_control.Seconds.{Seconds}
use Rattle.hc_directives.specs.declared.cache_control.Seconds.TheVariants.{Absent, Bare, Value, Unreadable}
use Rattle.hc_directives.specs.Directives.{Directive, cache_control, first_directive, has_directive, is_named, seconds_of}
use Rattle.hc_fresh.specs.Lifetimes.{explicit, freshness_lifetime, says, seconds_said, seconds_stated, seconds_until, stale_forbidden}
use Rattle.hc_rules.specs.Storing.{is_heuristically_cacheable}
use Rattle.hc_update.specs.declared.stored.Stored.{Stored}
use Rattle.hc_history.specs.Allowing.{allowed_lifetime, allowed_staleness, at_least, grace_permits, is_allowed_fresh, is_allowed_usable, use_is_allowed, widens_use}
use Rattle.hc_history.specs.Claims.{Claim}
use Rattle.hc_history.specs.Usable.{age_of, is_fresh_within, is_usable, lifetime_of, max_stale_permits, permits, permits_staleness, staleness_at, validated_since}
use Rattle.hc_use.specs.declared.stale.Setting.{Setting}
use Rattle.hc_use.specs.declared.stale.Setting.TheVariants.{DefaultLifetime, Grace}
use Rattle.hc_use.specs.Laws.{allowing, with_default_lifetime, with_grace}
use Rattle.hc_use.specs.Stale.{greater, least_grace, least_lifetime, lifetime_for, seconds_in, setting_of, takes_lifetime}

-- ---- what states no lifetime has the lifetime 0

no_first : (name : List ℕ) (directives : List Directive) → has_directive name directives ≡ false → first_directive name directives ≡ None
no_first name [] none = refl
no_first name (d ∷ ds) none =
    let parts = or_parts (is_named name d) (has_directive name ds) none in
    cond-false (is_named name d) (Some d) (first_directive name ds) parts.0 ∙ no_first name ds parts.1

no_values : (name : List ℕ) (fields : List Field) → has_name name fields ≡ false → values_of name fields ≡ []
no_values name [] none = refl
no_values name (f ∷ fs) none =
    let parts = or_parts (bytes_eq f.name name) (has_name name fs) none in
    cond-false (bytes_eq f.name name) (f.value ∷ values_of name fs) (values_of name fs) parts.0 ∙ no_values name fs parts.1

states_none : (fields : List Field) (date : ℕ) → explicit fields ≡ false → freshness_lifetime fields date ≡ 0
states_none fields date none =
    let parts = or_parts (says (codes "s-maxage") fields || says (codes "max-age") fields) (has_name (codes "expires") fields) none in
    let both = or_parts (says (codes "s-maxage") fields) (says (codes "max-age") fields) parts.0 in
    let shared = no_first (codes "s-maxage") (cache_control fields).directives both.0 in
    let own = no_first (codes "max-age") (cache_control fields).directives both.1 in
    let ends = no_values (codes "expires") fields parts.1 in
    λ i. unwrap_or (option_or (seconds_stated (seconds_of (shared i)))
    (option_or (seconds_stated (seconds_of (own i))) (option_map (seconds_until date) (slice_get (ends i) 0)))) 0

-- ---- the lifetime that is allowed

stays : (seconds : Option ℕ) (states takes : Bool) (lifetime : ℕ) → (not states && takes) ≡ false
    → at_least seconds ((is_some seconds && not states) && takes) lifetime ≡ lifetime
stays None states takes lifetime none = refl
stays (Some seconds) true takes lifetime none = refl
stays (Some seconds) false takes lifetime none = ap (λ (b : Bool). at_least (Some seconds) b lifetime) none

given : (seconds : ℕ) (states takes : Bool) (lifetime : ℕ) → (not states && takes) ≡ true → (states ≡ false → lifetime ≡ 0)
    → at_least (Some seconds) ((true && not states) && takes) lifetime ≡ seconds
given seconds true takes lifetime is none = cc
given seconds false takes lifetime is none =
    (λ i. at_least (Some seconds) (is i) (none refl i)) ∙ zero-max seconds

-- ---- by how many seconds a response may be stale

moved : (stale seconds slack : ℕ) → nat_le stale (seconds + slack) ≡ nat_le (stale - slack) seconds
moved stale seconds slack = grind (arith, nat_tests)

below : (age seconds slack : ℕ) → (nat_lt age (seconds + slack) || false) ≡ nat_le (age + 1 - slack) seconds
below age seconds slack = grind (arith, nat_tests)

below_or_stale : (age seconds most slack : ℕ) → (nat_lt age (seconds + slack) || nat_le (age - seconds) (most + slack)) ≡ nat_le (age - (most + slack)) seconds
below_or_stale age seconds most slack = grind (arith, nat_tests)

greatest : (stale one other slack : ℕ) → nat_le stale (max one other + slack) ≡ (nat_le stale (one + slack) || nat_le stale (other + slack))
greatest stale one other slack = grind (arith, nat_tests)

or_false : (b : Bool) → (b || false) ≡ b
or_false true = refl
or_false false = refl

of_greater : (slack stale : ℕ) (one other : Option ℕ) → grace_permits slack stale (greater one other) ≡ (grace_permits slack stale one || grace_permits slack stale other)
of_greater slack stale None other = refl
of_greater slack stale (Some one) None = sym (or_false (nat_le stale (one + slack)))
of_greater slack stale (Some one) (Some other) = greatest stale one other slack

of_said : (slack stale : ℕ) (said : Seconds) → permits slack stale said ≡ grace_permits slack stale (seconds_in said)
of_said slack stale Absent = refl
of_said slack stale Bare = refl
of_said slack stale (Value seconds) = refl
of_said slack stale Unreadable = refl

-- a bare max-stale would have permitted another staleness, too
of_max_stale : (slack stale other : ℕ) (said : Seconds) → max_stale_permits slack other said ≡ false
    → max_stale_permits slack stale said ≡ grace_permits slack stale (seconds_in said)
of_max_stale slack stale other Absent none = refl
of_max_stale slack stale other Bare none = cc
of_max_stale slack stale other (Value seconds) none = refl
of_max_stale slack stale other Unreadable none = refl

-- whatever permits it, in the order of the filter, and in that of the greatest
in_order : (ever error on_error grace : Bool) → (((ever || (error && on_error)) || false) || grace) ≡ (if error then (grace || ever) || on_error else (grace || ever))
in_order true true on_error true = refl
in_order true true on_error false = refl
in_order true false on_error true = refl
in_order true false on_error false = refl
in_order false true true true = refl
in_order false true true false = refl
in_order false true false true = refl
in_order false true false false = refl
in_order false false on_error true = refl
in_order false false on_error false = refl

-- what permits a staleness, and the seconds by which it is tolerated, of what the directives say
abbrev permits_by : ℕ → ℕ → Seconds → Seconds → Seconds → Seconds → Bool → Bool → Bool
permits_by slack stale asked meanwhile own asked_on_error error failure =
    ((max_stale_permits slack stale asked || permits slack stale meanwhile)
    || ((error || failure) && (permits slack stale own || permits slack stale asked_on_error)))
    || failure

abbrev tolerated_by : Option ℕ → Seconds → Seconds → Seconds → Seconds → Bool → Bool → Option ℕ
tolerated_by grace asked meanwhile own asked_on_error error failure =
    if error || failure
    then greater (greater grace (greater (seconds_in asked) (seconds_in meanwhile))) (greater (seconds_in own) (seconds_in asked_on_error))
    else greater grace (greater (seconds_in asked) (seconds_in meanwhile))

of_choice : (slack stale : ℕ) (error : Bool) (one other : Option ℕ)
    → grace_permits slack stale (if error then greater one other else one)
    ≡ (if error then grace_permits slack stale one || grace_permits slack stale other else grace_permits slack stale one)
of_choice slack stale true one other = of_greater slack stale one other
of_choice slack stale false one other = refl

tolerates : (slack stale before : ℕ) (grace : Option ℕ) (asked meanwhile own asked_on_error : Seconds) (error failure : Bool)
    → permits_by slack before asked meanwhile own asked_on_error error failure ≡ false
    → (permits_by slack stale asked meanwhile own asked_on_error error failure || grace_permits slack stale grace)
    ≡ grace_permits slack stale (tolerated_by grace asked meanwhile own asked_on_error error failure)
tolerates slack stale before grace asked meanwhile own asked_on_error error failure none =
    let parts = or_parts ((max_stale_permits slack before asked || permits slack before meanwhile)
    || ((error || failure) && (permits slack before own || permits slack before asked_on_error))) failure none in
    let more = or_parts (max_stale_permits slack before asked || permits slack before meanwhile)
    ((error || failure) && (permits slack before own || permits slack before asked_on_error)) parts.0 in
    let bare = or_parts (max_stale_permits slack before asked) (permits slack before meanwhile) more.0 in
    let allowed : Option ℕ → Bool = grace_permits slack stale in
    let fair = greater (seconds_in asked) (seconds_in meanwhile) in
    let broken = greater (seconds_in own) (seconds_in asked_on_error) in
    let fairly = of_greater slack stale (seconds_in asked) (seconds_in meanwhile) in
    let brokenly = of_greater slack stale (seconds_in own) (seconds_in asked_on_error) in
    let ever : allowed (greater grace fair) ≡ (allowed grace || (allowed (seconds_in asked) || allowed (seconds_in meanwhile))) =
    of_greater slack stale grace fair ∙ ap (λ (b : Bool). allowed grace || b) fairly in
    (λ i. (((of_max_stale slack stale before asked bare.0 i || of_said slack stale meanwhile i)
    || ((error || failure) && (of_said slack stale own i || of_said slack stale asked_on_error i))) || parts.1 i) || allowed grace)
    ∙ in_order (allowed (seconds_in asked) || allowed (seconds_in meanwhile)) (error || failure) (allowed (seconds_in own) || allowed (seconds_in asked_on_error)) (allowed grace)
    ∙ sym (of_choice slack stale (error || failure) (greater grace fair) broken ∙ (λ i. if error || failure then ever i || brokenly i else ever i))

-- ---- of a response that may not be used

unused_parts : (validated no_cache is_fresh forbidden permitted : Bool) → (validated || (not no_cache && (is_fresh || (not forbidden && permitted)))) ≡ false
    → no_cache ≡ false → (is_fresh ≡ false) × (forbidden ≡ false → permitted ≡ false)
unused_parts true no_cache is_fresh forbidden permitted none said = cc
unused_parts false true is_fresh forbidden permitted none said = cc
unused_parts false false true forbidden permitted none said = cc
unused_parts false false false true permitted none said = (refl, λ no. cc)
unused_parts false false false false permitted none said = (refl, λ same. none)

-- ---- which setting is told

abbrev setting_by : Bool → Bool → Bool → ℕ → ℕ → Option Setting
setting_by no_cache takes forbidden lifetime grace =
    if no_cache then None else (if takes then Some (DefaultLifetime lifetime) else (if forbidden then None else Some (Grace grace)))

told_grace : (no_cache takes forbidden : Bool) (lifetime grace least : ℕ) → setting_by no_cache takes forbidden lifetime grace ≡ Some (Grace least)
    → (no_cache ≡ false) × (takes ≡ false) × (forbidden ≡ false) × (grace ≡ least)
told_grace true takes forbidden lifetime grace least told = cc
told_grace false true forbidden lifetime grace least told = cc
told_grace false false true lifetime grace least told = cc
told_grace false false false lifetime grace least told = (refl, refl, refl, cc)

told_lifetime : (no_cache takes forbidden : Bool) (lifetime grace least : ℕ)
    → setting_by no_cache takes forbidden lifetime grace ≡ Some (DefaultLifetime least) → (no_cache ≡ false) × (takes ≡ true) × (lifetime ≡ least)
told_lifetime true takes forbidden lifetime grace least told = cc
told_lifetime false true forbidden lifetime grace least told = (refl, refl, cc)
told_lifetime false false true lifetime grace least told = cc
told_lifetime false false false lifetime grace least told = cc

told_none : (no_cache takes forbidden : Bool) (lifetime grace : ℕ) → setting_by no_cache takes forbidden lifetime grace ≡ None
    → no_cache ≡ false → (takes ≡ false) × (forbidden ≡ true)
told_none true takes forbidden lifetime grace told said = cc
told_none false true forbidden lifetime grace told said = cc
told_none false false true lifetime grace told said = (refl, refl)
told_none false false false lifetime grace told said = cc

-- ---- what is allowed then

-- by a grace: the age isn't under the lifetime, and nothing else permits how stale it is
only_grace : (widens no_cache is_fresh forbidden permitted graced : Bool)
    → widens ≡ true → no_cache ≡ false → is_fresh ≡ false → forbidden ≡ false → permitted ≡ false
    → ((widens && not no_cache) && (is_fresh || (not forbidden && (permitted || graced)))) ≡ graced
only_grace widens no_cache is_fresh forbidden permitted graced w n f s p = λ i. ((w i && not (n i)) && (f i || (not (s i) && (p i || graced))))

-- by a default lifetime
from_lifetime : (forbidden permitted : Bool) (most : Option ℕ) (age seconds slack : ℕ) → (forbidden ≡ false → permitted ≡ grace_permits slack (age - seconds) most)
    → (nat_lt age (seconds + slack) || (not forbidden && permitted)) ≡ nat_le (lifetime_for (if forbidden then None else most) age slack) seconds
from_lifetime true permitted most age seconds slack is = below age seconds slack
from_lifetime false permitted None age seconds slack is = ap (λ (b : Bool). nat_lt age (seconds + slack) || b) (is refl) ∙ below age seconds slack
from_lifetime false permitted (Some most) age seconds slack is =
    ap (λ (b : Bool). nat_lt age (seconds + slack) || b) (is refl) ∙ below_or_stale age seconds most slack

-- by none
by_nothing : (widens no_cache is_fresh forbidden permitted : Bool) → (no_cache ≡ false → (is_fresh ≡ false) × (forbidden ≡ true))
    → ((widens && not no_cache) && (is_fresh || (not forbidden && permitted))) ≡ false
by_nothing false no_cache is_fresh forbidden permitted none = refl
by_nothing true true is_fresh forbidden permitted none = refl
by_nothing true false is_fresh forbidden permitted none = λ i. (none refl).0 i || (not ((none refl).1 i) && permitted)

some_widens : (o : Option ℕ) (other : Bool) → other ≡ true → (is_some o || other) ≡ true
some_widens None other is = is
some_widens (Some n) other is = refl

-- ---- of a claim

module _ (claim : Claim) (state : Stored) (unused : use_is_allowed claim state ≡ false) where
  unusable : is_usable claim state ≡ false
  unusable = (or_parts (is_usable claim state) (is_allowed_usable claim state) unused).0

  parts_of : says (codes "no-cache") state.fields ≡ false
      → (is_fresh_within claim.settings.slack state claim.moment ≡ false)
      × (stale_forbidden state.fields ≡ false → permits_staleness claim state (staleness_at state claim.moment) ≡ false)
  parts_of =
      unused_parts (validated_since claim.since state.validated_at) (says (codes "no-cache") state.fields) (is_fresh_within claim.settings.slack state claim.moment)
      (stale_forbidden state.fields) (permits_staleness claim state (staleness_at state claim.moment)) unusable

  -- where it isn't given a lifetime
  own_lifetime : (lifetime grace : Option ℕ) → takes_lifetime state ≡ false → allowed_lifetime (allowing lifetime grace claim) state ≡ lifetime_of state
  own_lifetime lifetime grace none =
      stays lifetime (explicit state.fields) (says (codes "public") state.fields || is_heuristically_cacheable state.status) (lifetime_of state) none

  pub by_grace : (least seconds : ℕ) → setting_of claim state ≡ Some (Grace least) → use_is_allowed (with_grace seconds claim) state ≡ nat_le least seconds
  by_grace least seconds told =
      let is = told_grace (says (codes "no-cache") state.fields) (takes_lifetime state) (stale_forbidden state.fields) (least_lifetime claim state) (least_grace claim state) least told in
      let parts = parts_of is.0 in
      let more = with_grace seconds claim in
      let slack = claim.settings.slack in
      let same = own_lifetime claim.settings.allowed.default_lifetime (Some seconds) is.1 in
      (λ i. unusable i || ((widens_use more.settings.allowed && not (says (codes "no-cache") state.fields))
      && (nat_lt (age_of claim state) (same i + slack) || (not (stale_forbidden state.fields)
      && (permits_staleness claim state (age_of claim state - same i) || nat_le (age_of claim state - same i) (seconds + slack))))))
      ∙ only_grace (widens_use more.settings.allowed) (says (codes "no-cache") state.fields) (is_fresh_within slack state claim.moment) (stale_forbidden state.fields)
      (permits_staleness claim state (staleness_at state claim.moment)) (nat_le (staleness_at state claim.moment) (seconds + slack))
      (some_widens claim.settings.allowed.default_lifetime true refl) is.0 parts.0 is.2 (parts.1 is.2)
      ∙ moved (staleness_at state claim.moment) seconds slack
      ∙ ap (λ (n : ℕ). nat_le n seconds) is.3

  pub by_lifetime : (least seconds : ℕ) → setting_of claim state ≡ Some (DefaultLifetime least)
      → use_is_allowed (with_default_lifetime seconds claim) state ≡ nat_le least seconds
  by_lifetime least seconds told =
      let is = told_lifetime (says (codes "no-cache") state.fields) (takes_lifetime state) (stale_forbidden state.fields) (least_lifetime claim state) (least_grace claim state) least told in
      let parts = parts_of is.0 in
      let slack = claim.settings.slack in
      let age = age_of claim state in
      let grace = claim.settings.allowed.grace in
      let asked = seconds_said (codes "max-stale") claim.request.fields in
      let meanwhile = seconds_said (codes "stale-while-revalidate") state.fields in
      let own = seconds_said (codes "stale-if-error") state.fields in
      let asked_on_error = seconds_said (codes "stale-if-error") claim.request.fields in
      let same : allowed_lifetime (with_default_lifetime seconds claim) state ≡ seconds =
      given seconds (explicit state.fields) (says (codes "public") state.fields || is_heuristically_cacheable state.status) (lifetime_of state) is.1
      (states_none state.fields state.times.date) in
      (λ i. unusable i || ((true && not (is.0 i))
      && (nat_lt age (same i + slack) || (not (stale_forbidden state.fields)
      && (permits_staleness claim state (age - same i) || grace_permits slack (age - same i) grace)))))
      ∙ from_lifetime (stale_forbidden state.fields) (permits_staleness claim state (age - seconds) || grace_permits slack (age - seconds) grace)
      (tolerated_by grace asked meanwhile own asked_on_error claim.has_error claim.has_failure) age seconds slack
      (λ may. tolerates slack (age - seconds) (staleness_at state claim.moment) grace asked meanwhile own asked_on_error claim.has_error claim.has_failure (parts.1 may))
      ∙ ap (λ (n : ℕ). nat_le n seconds) is.2

  pub by_none : (lifetime grace : Option ℕ) → setting_of claim state ≡ None → use_is_allowed (allowing lifetime grace claim) state ≡ false
  by_none lifetime grace told =
      let more = allowing lifetime grace claim in
      or_from (is_usable more state) (is_allowed_usable more state) unusable
      (by_nothing (widens_use more.settings.allowed) (says (codes "no-cache") state.fields) (is_allowed_fresh more state) (stale_forbidden state.fields)
      (permits_staleness more state (allowed_staleness more state) || grace_permits more.settings.slack (allowed_staleness more state) grace)
      (λ said.
      let is = told_none (says (codes "no-cache") state.fields) (takes_lifetime state) (stale_forbidden state.fields) (least_lifetime claim state) (least_grace claim state) told said in
      ((λ i. nat_lt (age_of claim state) (own_lifetime lifetime grace is.0 i + claim.settings.slack)) ∙ (parts_of said).0, is.1)))

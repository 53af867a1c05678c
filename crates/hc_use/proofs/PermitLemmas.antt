-- What is named as that by which a stale response may be given does permit it.
use Rattle.std.proofs.Common.{◌≡◌, ◌≤◌, ℕ, Bool, true, false, not, ◌&&◌, ◌||◌, Option, Some, None, if◌then◌else◌, refl, ap, sym, subst, ◌∙◌, arith}
use Rattle.std.specs.Prelude.{codes, nat_le, nat_lt, ◌+◌}
use Rattle.std.proofs.lemmas.Bool.{and_parts, cond_both, or_from, or_left, or_right}
use Rattle.std.proofs.lemmas.Bool.Decides.{nat_tests}
use Rattle.hc_directives.specs.declared.cache_control.Seconds.{Seconds}
use Rattle.hc_directives.specs.declared.cache_control.Seconds.TheVariants.{Absent, Bare, Value, Unreadable}
use Rattle.hc_fresh.specs.Ages.{fresh}
use Rattle.hc_fresh.specs.Lifetimes.{says, seconds_said, stale_forbidden}
use Rattle.hc_update.specs.declared.stored.Stored.{Stored}
use Rattle.hc_history.specs.Allowing.{allowed_staleness, at_least, grace_permits, is_allowed_fresh, takes_default, use_is_allowed, widens_use}
use Rattle.hc_history.specs.Claims.{Claim}
use Rattle.hc_history.specs.Usable.{age_of, is_fresh_within, lifetime_of, max_stale_permits, meanwhile_permits, permits, permits_staleness, request_permits, staleness_at, validated_since}
use Rattle.hc_use.specs.declared.permits.Permit.{Permit}
use Rattle.hc_use.specs.declared.permits.Permit.TheVariants.{Slack, MaxStale, WhileRevalidating, IfError, AskedIfError, Unreachable}
use Rattle.hc_use.specs.declared.permits.StaleUse.{StaleUse}
use Rattle.hc_use.specs.Permits.{DoesPermit, granted, is_used_stale, lent, permit_by, permit_of, stale_use_of}
use Rattle.hc_use.specs.Using.{usage_of}

-- ---- of tests

is_not : (b : Bool) → not b ≡ true → b ≡ false
is_not true is = cc
is_not false is = refl

or_more : (a b c d : Bool) → (a ≡ true → c ≡ true) → (b ≡ true → d ≡ true) → (a || b) ≡ true → (c || d) ≡ true
or_more true b c d one other is = or_left c d (one refl)
or_more false b c d one other is = or_right c d (other is)

and_more : (a b c : Bool) → (b ≡ true → c ≡ true) → (a && b) ≡ true → (a && c) ≡ true
and_more true b c more is = more is
and_more false b c more is = is

neither : (a b c : Bool) → (a && b) ≡ false → (a && c) ≡ false → (a && (b || c)) ≡ false
neither true b c one other = or_from b c one other
neither false b c one other = refl

the_other : (a b : Bool) → a ≡ false → (a || b) ≡ true → b ≡ true
the_other true b none is = cc
the_other false b none is = is

chosen : (b : Bool) (named told : StaleUse) → (if b then Some named else None) ≡ Some told → (b ≡ true) × (named ≡ told)
chosen true named told is = (refl, cc)
chosen false named told is = cc

-- of what is stale by either lifetime and may be used nothing forbids that, and its staleness is permitted
stale_parts : (validated no_cache is_fresh is_allowed forbidden widens permitted more graced : Bool)
    → validated ≡ false → is_fresh ≡ false → is_allowed ≡ false → (permitted ≡ true → more ≡ true)
    → ((validated || (not no_cache && (is_fresh || (not forbidden && permitted))))
    || ((widens && not no_cache) && (is_allowed || (not forbidden && (more || graced))))) ≡ true
    → (forbidden ≡ false) × ((more || graced) ≡ true)
stale_parts true no_cache is_fresh is_allowed forbidden widens permitted more graced v f a up is = cc
stale_parts false no_cache true is_allowed forbidden widens permitted more graced v f a up is = cc
stale_parts false no_cache false true forbidden widens permitted more graced v f a up is = cc
stale_parts false true false false forbidden true permitted more graced v f a up is = cc
stale_parts false true false false forbidden false permitted more graced v f a up is = cc
stale_parts false false false false true true permitted more graced v f a up is = cc
stale_parts false false false false true false permitted more graced v f a up is = cc
stale_parts false false false false false widens true more graced v f a up is = (refl, or_left more graced (up refl))
stale_parts false false false false false true false more graced v f a up is = (refl, is)
stale_parts false false false false false false false more graced v f a up is = cc

-- ---- what permits a staleness permits less

stale_more : (stale staler seconds slack : ℕ) → stale ≤ staler → nat_le staler (seconds + slack) ≡ true → nat_le stale (seconds + slack) ≡ true
stale_more stale staler seconds slack few is = grind (arith, nat_tests)

permits_more : (slack stale staler : ℕ) → stale ≤ staler → (said : Seconds) → permits slack staler said ≡ true → permits slack stale said ≡ true
permits_more slack stale staler few (Value seconds) is = stale_more stale staler seconds slack few is
permits_more slack stale staler few Absent is = is
permits_more slack stale staler few Bare is = is
permits_more slack stale staler few Unreadable is = is

max_stale_more : (slack stale staler : ℕ) → stale ≤ staler → (said : Seconds) → max_stale_permits slack staler said ≡ true → max_stale_permits slack stale said ≡ true
max_stale_more slack stale staler few (Value seconds) is = stale_more stale staler seconds slack few is
max_stale_more slack stale staler few Absent is = is
max_stale_more slack stale staler few Bare is = is
max_stale_more slack stale staler few Unreadable is = is

-- ---- the lifetime that is allowed is no shorter

no_shorter : (seconds : Option ℕ) (takes : Bool) (lifetime : ℕ) → lifetime ≤ at_least seconds takes lifetime
no_shorter None takes lifetime = omega arith
no_shorter (Some seconds) true lifetime = omega arith
no_shorter (Some seconds) false lifetime = omega arith

-- ---- of a claim

module _ (claim : Claim) (state : Stored) where
  -- where the audit gives no lifetime, the one that is allowed is the response's own
  lends : (seconds : Option ℕ) → claim.settings.allowed.default_lifetime ≡ seconds → is_allowed_fresh claim state ≡ true → DoesPermit claim state (lent seconds)
  lends None same is =
      sym (ap (λ (o : Option ℕ). nat_lt (age_of claim state) (at_least o (takes_default claim state) (lifetime_of state) + claim.settings.slack)) same) ∙ is
  lends (Some seconds) same is = (same, is)

  grants : (seconds : Option ℕ) → claim.settings.allowed.grace ≡ seconds → stale_forbidden state.fields ≡ false
      → grace_permits claim.settings.slack (allowed_staleness claim state) seconds ≡ true → DoesPermit claim state (granted seconds)
  grants None same may is = cc
  grants (Some seconds) same may is = (may, same, is)

  staleness_less : allowed_staleness claim state ≤ staleness_at state claim.moment
  staleness_less = omega (arith, no_shorter claim.settings.allowed.default_lifetime (takes_default claim state) (lifetime_of state))

  permitted_less : (stale staler : ℕ) → stale ≤ staler → permits_staleness claim state staler ≡ true → permits_staleness claim state stale ≡ true
  permitted_less stale staler few is =
      or_more _ _ _ _
      (or_more _ _ _ _
      (or_more _ _ _ _ (max_stale_more claim.settings.slack stale staler few (seconds_said (codes "max-stale") claim.request.fields))
      (permits_more claim.settings.slack stale staler few (seconds_said (codes "stale-while-revalidate") state.fields)))
      (and_more _ _ _
      (or_more _ _ _ _ (permits_more claim.settings.slack stale staler few (seconds_said (codes "stale-if-error") state.fields))
      (permits_more claim.settings.slack stale staler few (seconds_said (codes "stale-if-error") claim.request.fields)))))
      (λ same. same) is

  -- of what is stale by either lifetime: where nothing that is said permits its staleness, the grace does
  staleness_permits : stale_forbidden state.fields ≡ false
      → (permits_staleness claim state (allowed_staleness claim state) || grace_permits claim.settings.slack (allowed_staleness claim state) claim.settings.allowed.grace) ≡ true
      → DoesPermit claim state (permit_by claim state (allowed_staleness claim state))
  staleness_permits may permitted =
      let slack = claim.settings.slack in
      let stale = allowed_staleness claim state in
      let asked = request_permits slack stale claim.request.fields in
      let meanwhile = meanwhile_permits slack stale state.fields in
      let broken = claim.has_error || claim.has_failure in
      let own = permits slack stale (seconds_said (codes "stale-if-error") state.fields) in
      let asked_on_error = permits slack stale (seconds_said (codes "stale-if-error") claim.request.fields) in
      let grace = claim.settings.allowed.grace in
      let does : Permit → Type 0 = DoesPermit claim state in
      cond_both asked MaxStale _ does (λ is. (may, is)) (λ not_asked.
      cond_both meanwhile WhileRevalidating _ does (λ is. (may, is)) (λ not_meanwhile.
      cond_both (broken && own) IfError _ does (λ is. let parts = and_parts broken own is in (may, parts.0, parts.1)) (λ not_own.
      cond_both (broken && asked_on_error) AskedIfError _ does (λ is. let parts = and_parts broken asked_on_error is in (may, parts.0, parts.1)) (λ not_on_error.
      cond_both claim.has_failure Unreachable (granted grace) does (λ is. (may, is)) (λ not_failed.
      let unsaid : permits_staleness claim state stale ≡ false =
      or_from ((asked || meanwhile) || (broken && (own || asked_on_error))) claim.has_failure
      (or_from (asked || meanwhile) (broken && (own || asked_on_error)) (or_from asked meanwhile not_asked not_meanwhile) (neither broken own asked_on_error not_own not_on_error))
      not_failed in
      grants grace refl may (the_other (permits_staleness claim state stale) (grace_permits slack stale grace) unsaid permitted))))))

  permit_permits : is_used_stale claim state ≡ true → DoesPermit claim state (permit_of claim state)
  permit_permits is =
      let validated = validated_since claim.since state.validated_at in
      let parts = and_parts (not validated && not (fresh (lifetime_of state) (age_of claim state))) (use_is_allowed claim state) is in
      let earlier = is_not validated (and_parts (not validated) (not (fresh (lifetime_of state) (age_of claim state))) parts.0).0 in
      let stale = allowed_staleness claim state in
      let seconds = claim.settings.allowed.default_lifetime in
      let is_fresh = is_fresh_within claim.settings.slack state claim.moment in
      let is_allowed = is_allowed_fresh claim state in
      let does : Permit → Type 0 = DoesPermit claim state in
      cond_both is_fresh Slack _ does (λ within. within) (λ not_fresh.
      cond_both is_allowed (lent seconds) (permit_by claim state stale) does (lends seconds refl) (λ not_allowed.
      let used = stale_parts validated (says (codes "no-cache") state.fields) is_fresh is_allowed (stale_forbidden state.fields) (widens_use claim.settings.allowed)
      (permits_staleness claim state (staleness_at state claim.moment)) (permits_staleness claim state stale)
      (grace_permits claim.settings.slack stale claim.settings.allowed.grace)
      earlier not_fresh not_allowed (permitted_less stale (staleness_at state claim.moment) staleness_less) parts.1 in
      staleness_permits used.0 used.1))

  pub named_permits : (stale_use : StaleUse) → stale_use_of claim state ≡ Some stale_use → DoesPermit claim state stale_use.permit
  named_permits stale_use told =
      let is = chosen (is_used_stale claim state) (record { usage = usage_of claim state; permit = permit_of claim state }) stale_use told in
      subst (λ (s : StaleUse). DoesPermit claim state s.permit) is.1 (permit_permits is.0)

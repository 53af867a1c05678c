-- With nothing allowed the rules are the strict ones, and what is right stays right where more is allowed.
use Rattle.std.proofs.Common.{◌≡◌, ℕ, ◌+◌, ◌≤◌, ◌==◌, Bool, true, false, not, ◌&&◌, ◌||◌, List, [], ◌∷◌, length, take, zero, suc, Option, Some, None, is_some, refl, sym, ap, subst, ◌∙◌, arith, inl, inr, ℤ}
use Rattle.std.specs.Prelude.{nat_le, nat_lt, nat_abs, ◌-ℤ◌, codes, if◌then◌else◌}
use Rattle.std.specs.List.{list_all}
use Rattle.std.proofs.lemmas.Bool.{and_from, and_left, and_parts, or_left, or_right, or_from}
use Rattle.std.proofs.lemmas.Bool.Decides.{nat_tests}
use Rattle.hc_fields.specs.Lists.{members_of}
use Rattle.hc_fields.specs.Values.{has_name}
use Rattle.hc_directives.specs.declared.cache_control.Seconds.{Seconds}
use Rattle.hc_directives.specs.declared.cache_control.Seconds.TheVariants.{Absent, Bare, Value, Unreadable}
use Rattle.hc_head.specs.declared.head.ResponseHead.{ResponseHead}
use Rattle.hc_head.specs.Methods.{is_get}
use Rattle.hc_framing.specs.declared.message.Message.{Message}
use Rattle.hc_fresh.specs.Lifetimes.{explicit, says, seconds_said}
use Rattle.hc_rules.specs.Selecting.{is_met}
use Rattle.hc_rules.specs.Storing.{is_heuristically_cacheable}
use Rattle.hc_status.specs.declared.marks.Mark.{Mark}
use Rattle.hc_status.specs.declared.marks.Mark.TheVariants.{Hit, Forwarded, Both, Unmarked}
use Rattle.hc_status.specs.Marks.{mark_of}
use Rattle.hc_head.specs.Statuses.{partial_content}
use Rattle.hc_update.specs.declared.stored.Stored.{Stored}
use Rattle.hc_transcript.specs.declared.format.Format.{Format}
use Rattle.hc_transcript.specs.Items.{Item, OriginResponse, ClientReply, Exchange, Forward}
use Rattle.hc_transcript.specs.History.{exchange_of, forward_of}
use Rattle.hc_history.specs.declared.allowed.Allowed.{Allowed}
use Rattle.hc_history.specs.declared.among.Among.{Among}
use Rattle.hc_history.specs.declared.among.Among.TheVariants.{Any, InWindow, Recent}
use Rattle.hc_history.specs.declared.kept.Kept.{Kept}
use Rattle.hc_history.specs.declared.settings.Settings.{Settings}
use Rattle.hc_history.specs.declared.verdicts.Counts.{Counts}
use Rattle.hc_history.specs.declared.settings.UnmarkedReplies.{UnmarkedReplies}
use Rattle.hc_history.specs.declared.settings.UnmarkedReplies.TheVariants.{Allow, ErrorsOnly}
use Rattle.hc_history.specs.Allowed.{SecondsAtMost, UnmarkedAtMost, LetsPassMore, nothing_but_marks}
use Rattle.hc_history.specs.Allowing.{age_is_allowed, allowed_lifetime, allowed_staleness, at_least, fields_are_allowed, filters, grace_permits, has_its_values, may_be_added, is_allowed_fresh, is_allowed_stale, is_allowed_usable, is_joined, is_met_or_normalized, is_near_age, is_normalized, selection_is_allowed, takes_default, use_is_allowed, widens_use}
use Rattle.hc_history.specs.Claims.{Claim, claim_of}
use Rattle.hc_history.specs.Counting.{counts_of, marked, one_more}
use Rattle.hc_history.specs.Filters.{compared_names, has_its_age, has_its_body, has_its_fields, has_its_ttl, is_age, is_asked_for, is_exempt, is_selected, is_ttl, is_valid, same_values, strict_filters, within}
use Rattle.hc_history.specs.Forwarded.{asks_the_same, carries, carries_part, carries_response, carries_whole, is_carried}
use Rattle.hc_history.specs.Marks.{infers, inferred_mark, item_mark, mark_by, mark_to, reply_mark, says_nothing, tells_causes}
use Rattle.hc_history.specs.Ranges.{asks_for_part, content_range, is_no_part, is_no_part_told, is_part, is_part_told, range_not_satisfiable}
use Rattle.hc_history.specs.Reused.{Pass, is_looked_at}
use Rattle.hc_history.specs.Right.{AllRight, CarriesStored, IsRight, IsRightBy, IsRightForwarded, IsRightTo, allows_unmarked, is_judged_collapsed}
use Rattle.hc_history.specs.Usable.{age_of, is_usable, lifetime_of, max_stale_permits, permits, permits_staleness, staleness_at}
use Rattle.hc_history.specs.Verdicts.{IsAllRight}
use Rattle.hc_history.specs.Windows.{has_forward, some_since}

-- ---- of tests

or_nothing : (a b : Bool) → b ≡ false → (a || b) ≡ a
or_nothing true b none = refl
or_nothing false b none = none

or_implied : (a b : Bool) → (b ≡ true → a ≡ true) → (a || b) ≡ a
or_implied true b up = refl
or_implied false true up = sym (up refl)
or_implied false false up = refl

or_more : (a b c d : Bool) → (a ≡ true → c ≡ true) → (b ≡ true → d ≡ true) → (a || b) ≡ true → (c || d) ≡ true
or_more true b c d one other is = or_left c d (one refl)
or_more false b c d one other is = or_right c d (other is)

and_more : (a b c d : Bool) → (a ≡ true → c ≡ true) → (b ≡ true → d ≡ true) → (a && b) ≡ true → (c && d) ≡ true
and_more a b c d one other is = let parts = and_parts a b is in and_from c d (one parts.0) (other parts.1)

same : {a : Bool} → a ≡ true → a ≡ true
same is = is

all_alike : (f g : List ℕ → Bool) → ((x : List ℕ) → f x ≡ g x) → (xs : List (List ℕ)) → list_all f xs ≡ list_all g xs
all_alike f g alike [] = refl
all_alike f g alike (x ∷ xs) = λ i. alike x i && all_alike f g alike xs i

all_more : (f g : List ℕ → Bool) → ((x : List ℕ) → f x ≡ true → g x ≡ true) → (xs : List (List ℕ)) → list_all f xs ≡ true → list_all g xs ≡ true
all_more f g more [] is = refl
all_more f g more (x ∷ xs) is = and_more (f x) (list_all f xs) (g x) (list_all g xs) (more x) (all_more f g more xs) is

within_more : (fewer more one other : ℕ) → fewer ≤ more → within fewer one other ≡ true → within more one other ≡ true
within_more fewer more one other few is = grind (arith, nat_tests)

le_more : (n fewer more : ℕ) → fewer ≤ more → nat_le n fewer ≡ true → nat_le n more ≡ true
le_more n fewer more few is = grind (arith, nat_tests)

fresh_more : (age less more slack wider : ℕ) → less ≤ more → slack ≤ wider → nat_lt age (less + slack) ≡ true → nat_lt age (more + wider) ≡ true
fresh_more age less more slack wider few wide is = grind (arith, nat_tests)

stale_more : (stale staler seconds more slack wider : ℕ) → stale ≤ staler → seconds ≤ more → slack ≤ wider
    → nat_le staler (seconds + slack) ≡ true → nat_le stale (more + wider) ≡ true
stale_more stale staler seconds more slack wider few longer wide is = grind (arith, nat_tests)

-- ---- nothing allowed

module _ (claim : Claim) (inferred : Bool) (none : claim.settings.allowed ≡ nothing_but_marks inferred) where
  nothing_normalized : (state : Stored) → selection_is_allowed claim state ≡ is_selected claim state
  nothing_normalized state =
      all_alike (is_met_or_normalized claim state) (is_met state.request.fields claim.request.fields)
      (λ member. or_nothing (is_met state.request.fields claim.request.fields member) (is_normalized claim.settings.allowed member)
      (ap (λ (a : Allowed). is_normalized a member) none))
      (members_of (codes "vary") state.fields)

  nothing_by_default : (state : Stored) → takes_default claim state ≡ false
  nothing_by_default state =
      ap (λ (a : Allowed). is_some a.default_lifetime && not (explicit state.fields) && (says (codes "public") state.fields || is_heuristically_cacheable state.status)) none

  used_strictly : (state : Stored) → use_is_allowed claim state ≡ is_usable claim state
  used_strictly state =
      or_nothing (is_usable claim state) (is_allowed_usable claim state)
      (ap (λ (a : Allowed). widens_use a && not (says (codes "no-cache") state.fields) && (is_allowed_fresh claim state || is_allowed_stale claim state)) none)

  no_ranges : asks_for_part claim ≡ false
  no_ranges = ap (λ (a : Allowed). a.ranges && is_get claim.request.method && has_name (codes "range") claim.request.fields) none

  no_part_told : (status : ℕ) (body : List ℕ) → is_no_part claim status body ≡ false
  no_part_told status body =
      ap (λ (b : Bool). b && claim.reply.head.status == range_not_satisfiable && status == 200 && is_no_part_told (length body) (content_range claim)) no_ranges

  no_part : (status : ℕ) (body : List ℕ) → is_part claim status body ≡ false
  no_part status body =
      ap (λ (b : Bool). b && claim.reply.head.status == partial_content && status == 200 && is_part_told claim.reply.body body (content_range claim)) no_ranges

  nothing_added : (state : Stored) (name : List ℕ) → may_be_added claim state name ≡ false
  nothing_added state name = and_left _ _ (and_left _ _ (ap (λ (a : Allowed). a.added_fields) none))

  nothing_joined : (state : Stored) (name : List ℕ) → is_joined claim state name ≡ false
  nothing_joined state name = and_left _ _ (and_left _ _ (and_left _ _ (ap (λ (a : Allowed). a.joined_lines) none)))

  values_strictly : (state : Stored) (name : List ℕ)
      → has_its_values claim state name ≡ (is_exempt claim name || same_values claim.reply.head.fields state.fields name)
  values_strictly state name =
      or_nothing (is_exempt claim name || same_values claim.reply.head.fields state.fields name || may_be_added claim state name) (is_joined claim state name) (nothing_joined state name)
      ∙ or_nothing (is_exempt claim name || same_values claim.reply.head.fields state.fields name) (may_be_added claim state name) (nothing_added state name)

  fields_strictly : (state : Stored) → fields_are_allowed claim state ≡ has_its_fields claim state
  fields_strictly state =
      or_nothing (list_all (has_its_values claim state) (compared_names claim state)) (is_no_part claim state.status state.body) (no_part_told state.status state.body)
      ∙ all_alike (has_its_values claim state) (λ name. is_exempt claim name || same_values claim.reply.head.fields state.fields name) (values_strictly state)
      (compared_names claim state)

  near_age_strictly : (age : ℕ) (told : Option ℕ) → is_near_age claim age told ≡ true → is_age claim age told ≡ true
  near_age_strictly age None is = is
  near_age_strictly age (Some told) is =
      within_more 0 claim.settings.slack told age (omega arith) (sym (ap (λ (a : Allowed). within a.age_slack told age) none) ∙ is)

  age_strictly : (state : Stored) → age_is_allowed claim state ≡ has_its_age claim state
  age_strictly state = or_implied (has_its_age claim state) _ (near_age_strictly (age_of claim state) _)

  pub strict_alike : (kept : Kept) → filters claim kept ≡ strict_filters claim kept
  strict_alike kept = λ i.
      is_asked_for claim kept.target
      ∷ nothing_normalized kept.state i
      ∷ is_valid kept.state
      ∷ (explicit kept.state.fields || used_strictly kept.state i)
      ∷ used_strictly kept.state i
      ∷ or_nothing (has_its_body claim kept.state) (is_no_part claim kept.state.status kept.state.body) (no_part_told kept.state.status kept.state.body) i
      ∷ fields_strictly kept.state i
      ∷ age_strictly kept.state i
      ∷ or_nothing (has_its_ttl claim kept.state) (takes_default claim kept.state) (nothing_by_default kept.state) i
      ∷ []

  pub carried_strictly : (method : List ℕ) (status : ℕ) (body : List ℕ) → carries claim method status body ≡ (asks_the_same claim method && carries_whole claim status body)
  carried_strictly method status body =
      ap (λ (b : Bool). asks_the_same claim method && b)
      (or_nothing (carries_whole claim status body) (carries_part claim status body) (or_from (is_part claim status body) (is_no_part claim status body) (no_part status body) (no_part_told status body)))

pub marked_strictly : (format : Format) (allowed : Allowed) (forwarded : Bool) (reply : Message ResponseHead) → allowed.inferred_marks ≡ false
    → (infers format allowed forwarded reply ≡ false) × (mark_by format allowed forwarded reply ≡ reply_mark reply)
marked_strictly format allowed forwarded reply none =
    let inferred : infers format allowed forwarded reply ≡ false =
    ap (λ (b : Bool). b && tells_causes format && says_nothing (mark_of reply.head.fields) && nat_lt reply.head.status 400 && (forwarded || not (reply.head.status == partial_content))) none in
    (inferred, ap (λ (b : Bool). if b then inferred_mark forwarded else reply_mark reply) inferred)

-- ---- more allowed

-- the same claim, by these settings
abbrev under : Settings → Claim → Claim
under settings claim = record {
  format = claim.format;
  exchange = claim.exchange;
  request = claim.request;
  target = claim.target;
  since = claim.since;
  reply = claim.reply;
  moment = claim.moment;
  is_inferred = claim.is_inferred;
  ttl = claim.ttl;
  has_error = claim.has_error;
  has_failure = claim.has_failure;
  settings = settings;
}

some_more : (less more : Option ℕ) → SecondsAtMost less more → is_some less ≡ true → is_some more ≡ true
some_more None more at_most is = cc
some_more (Some n) None at_most is = absurd at_most
some_more (Some n) (Some m) at_most is = refl

at_least_more : (less more : Option ℕ) → SecondsAtMost less more → (takes stays : Bool) → (takes ≡ true → stays ≡ true) → (lifetime : ℕ)
    → at_least less takes lifetime ≤ at_least more stays lifetime
at_least_more None None at_most takes stays up lifetime = omega arith
at_least_more None (Some m) at_most takes true up lifetime = omega arith
at_least_more None (Some m) at_most takes false up lifetime = omega arith
at_least_more (Some n) None at_most takes stays up lifetime = absurd at_most
at_least_more (Some n) (Some m) at_most true true up lifetime = omega (arith, at_most)
at_least_more (Some n) (Some m) at_most true false up lifetime = absurd (let no : false ≡ true = up refl in cc)
at_least_more (Some n) (Some m) at_most false true up lifetime = omega arith
at_least_more (Some n) (Some m) at_most false false up lifetime = omega arith

unmarked_more : (less more : UnmarkedReplies) → UnmarkedAtMost less more → (status : ℕ) → allows_unmarked less status ≡ true → allows_unmarked more status ≡ true
unmarked_more ErrorsOnly ErrorsOnly at_most status is = is
unmarked_more ErrorsOnly Allow at_most status is = refl
unmarked_more Allow ErrorsOnly at_most status is = absurd at_most
unmarked_more Allow Allow at_most status is = refl

module _ (slack wider : ℕ) (wide : slack ≤ wider) (stale staler : ℕ) (few : stale ≤ staler) where
  permits_more : (seconds : Seconds) → permits slack staler seconds ≡ true → permits wider stale seconds ≡ true
  permits_more (Value seconds) is = stale_more stale staler seconds seconds slack wider few (omega arith) wide is
  permits_more Absent is = is
  permits_more Bare is = is
  permits_more Unreadable is = is

  max_stale_more : (seconds : Seconds) → max_stale_permits slack staler seconds ≡ true → max_stale_permits wider stale seconds ≡ true
  max_stale_more (Value seconds) is = stale_more stale staler seconds seconds slack wider few (omega arith) wide is
  max_stale_more Absent is = is
  max_stale_more Bare is = is
  max_stale_more Unreadable is = is

  grace_permits_more : (less more : Option ℕ) → SecondsAtMost less more → grace_permits slack staler less ≡ true → grace_permits wider stale more ≡ true
  grace_permits_more None more at_most is = cc
  grace_permits_more (Some n) None at_most is = absurd at_most
  grace_permits_more (Some n) (Some m) at_most is = stale_more stale staler n m slack wider few at_most wide is

-- each test of the one implies that of the other
abbrev Implies : List Bool → List Bool → Type 0
Implies [] ys = Unit {0}
Implies (x ∷ xs) [] = ⊥
Implies (x ∷ xs) (y ∷ ys) = (x ≡ true → y ≡ true) × Implies xs ys

take_more : (n : ℕ) (xs ys : List Bool) → Implies xs ys → list_all (λ b. b) (take n xs) ≡ true → length ys ≤ length xs → list_all (λ b. b) (take n ys) ≡ true
take_more zero xs ys more is few = refl
take_more (suc n) [] [] more is few = refl
take_more (suc n) [] (y ∷ ys) more is few = absurd (omega (arith, few))
take_more (suc n) (x ∷ xs) [] more is few = refl
take_more (suc n) (x ∷ xs) (y ∷ ys) more is few =
    and_more x (list_all (λ b. b) (take n xs)) y (list_all (λ b. b) (take n ys)) more.0 (λ rest. take_more n xs ys more.1 rest (omega (arith, few))) is

module _ (claim : Claim) (settings : Settings) (more : LetsPassMore settings claim.settings) where
  wider : Claim
  wider = under settings claim

  default_more : (state : Stored) → takes_default claim state ≡ true → takes_default wider state ≡ true
  unfolding wider
  default_more state is =
      and_more _ _ _ _ (and_more _ _ _ _ (some_more claim.settings.allowed.default_lifetime settings.allowed.default_lifetime more.allowed.default_lifetime) same) same is

  lifetime_more : (state : Stored) → allowed_lifetime claim state ≤ allowed_lifetime wider state
  unfolding wider
  lifetime_more state =
      at_least_more claim.settings.allowed.default_lifetime settings.allowed.default_lifetime more.allowed.default_lifetime (takes_default claim state) (takes_default wider state)
      (default_more state) (lifetime_of state)

  staleness_less : (state : Stored) → allowed_staleness wider state ≤ allowed_staleness claim state
  unfolding wider
  staleness_less state = omega (arith, lifetime_more state)

  staleness_more : (state : Stored) (stale staler : ℕ) → stale ≤ staler → permits_staleness claim state staler ≡ true → permits_staleness wider state stale ≡ true
  unfolding wider
  staleness_more state stale staler few is =
      or_more _ _ _ _
      (or_more _ _ _ _
      (or_more _ _ _ _ (max_stale_more claim.settings.slack settings.slack more.slack stale staler few (seconds_said (codes "max-stale") claim.request.fields))
      (permits_more claim.settings.slack settings.slack more.slack stale staler few (seconds_said (codes "stale-while-revalidate") state.fields)))
      (and_more _ _ _ _ same
      (or_more _ _ _ _ (permits_more claim.settings.slack settings.slack more.slack stale staler few (seconds_said (codes "stale-if-error") state.fields))
      (permits_more claim.settings.slack settings.slack more.slack stale staler few (seconds_said (codes "stale-if-error") claim.request.fields)))))
      same is

  strictly_usable_more : (state : Stored) → is_usable claim state ≡ true → is_usable wider state ≡ true
  unfolding wider
  strictly_usable_more state is =
      or_more _ _ _ _ same
      (and_more _ _ _ _ same
      (or_more _ _ _ _ (fresh_more (age_of claim state) (lifetime_of state) (lifetime_of state) claim.settings.slack settings.slack (omega arith) more.slack)
      (and_more _ _ _ _ same (staleness_more state (staleness_at state claim.moment) (staleness_at state claim.moment) (omega arith)))))
      is

  usable_more : (state : Stored) → is_allowed_usable claim state ≡ true → is_allowed_usable wider state ≡ true
  unfolding wider
  usable_more state is =
      and_more _ _ _ _
      (and_more _ _ _ _
      (or_more _ _ _ _ (some_more claim.settings.allowed.default_lifetime settings.allowed.default_lifetime more.allowed.default_lifetime)
      (some_more claim.settings.allowed.grace settings.allowed.grace more.allowed.grace))
      same)
      (or_more _ _ _ _ (fresh_more (age_of claim state) (allowed_lifetime claim state) (allowed_lifetime wider state) claim.settings.slack settings.slack (lifetime_more state) more.slack)
      (and_more _ _ _ _ same
      (or_more _ _ _ _ (staleness_more state (allowed_staleness wider state) (allowed_staleness claim state) (staleness_less state))
      (grace_permits_more claim.settings.slack settings.slack more.slack (allowed_staleness wider state) (allowed_staleness claim state) (staleness_less state)
      claim.settings.allowed.grace settings.allowed.grace more.allowed.grace))))
      is

  use_more : (state : Stored) → use_is_allowed claim state ≡ true → use_is_allowed wider state ≡ true
  unfolding wider
  use_more state is = or_more (is_usable claim state) (is_allowed_usable claim state) (is_usable wider state) (is_allowed_usable wider state) (strictly_usable_more state) (usable_more state) is

  part_more : asks_for_part claim ≡ true → asks_for_part wider ≡ true
  unfolding wider
  part_more is = and_more _ _ _ _ (and_more _ _ _ _ more.allowed.ranges same) same is

  no_part_more : (status : ℕ) (body : List ℕ) → is_no_part claim status body ≡ true → is_no_part wider status body ≡ true
  unfolding wider
  no_part_more status body is = and_more _ _ _ _ (and_more _ _ _ _ (and_more _ _ _ _ part_more same) same) same is

  is_part_more : (status : ℕ) (body : List ℕ) → is_part claim status body ≡ true → is_part wider status body ≡ true
  unfolding wider
  is_part_more status body is = and_more _ _ _ _ (and_more _ _ _ _ (and_more _ _ _ _ part_more same) same) same is

  exempt_more : (name : List ℕ) → is_exempt claim name ≡ true → is_exempt wider name ≡ true
  unfolding wider
  exempt_more name is = or_more _ _ _ _ same (more.ignored name) is

  values_more : (state : Stored) (name : List ℕ) → has_its_values claim state name ≡ true → has_its_values wider state name ≡ true
  unfolding wider
  values_more state name is =
      or_more _ _ _ _ (or_more _ _ _ _ (or_more _ _ _ _ (exempt_more name) same) (and_more _ _ _ _ (and_more _ _ _ _ more.allowed.added_fields same) same))
      (and_more _ _ _ _ (and_more _ _ _ _ (and_more _ _ _ _ more.allowed.joined_lines same) same) same) is

  age_more : (age : ℕ) (told : Option ℕ) → is_age claim age told ≡ true → is_age wider age told ≡ true
  unfolding wider
  age_more age None is = is
  age_more age (Some told) is = within_more claim.settings.slack settings.slack told age more.slack is

  near_more : (age : ℕ) (told : Option ℕ) → is_near_age claim age told ≡ true → is_near_age wider age told ≡ true
  unfolding wider
  near_more age None is = is
  near_more age (Some told) is = within_more claim.settings.allowed.age_slack settings.allowed.age_slack told age more.allowed.age_slack is

  ttl_more : (left : ℤ) (told : Option ℤ) → is_ttl claim left told ≡ true → is_ttl wider left told ≡ true
  unfolding wider
  ttl_more left None is = is
  ttl_more left (Some told) is = le_more (nat_abs (told -ℤ left)) claim.settings.slack settings.slack more.slack is

  filters_more : (kept : Kept) → Implies (filters claim kept) (filters wider kept)
  unfolding wider
  filters_more kept = (
    same,
    (
      all_more (is_met_or_normalized claim kept.state) (is_met_or_normalized wider kept.state)
          (λ member. or_more _ _ _ _ same (and_more _ _ _ _ (more.allowed.normalized member) same)) (members_of (codes "vary") kept.state.fields),
      (
        same,
        (
          or_more _ _ _ _ same (use_more kept.state),
          (
            use_more kept.state,
            (
              or_more _ _ _ _ same (no_part_more kept.state.status kept.state.body),
              (
                or_more _ _ _ _ (all_more (has_its_values claim kept.state) (has_its_values wider kept.state) (values_more kept.state) (compared_names claim kept.state))
                    (no_part_more kept.state.status kept.state.body),
                (
                  or_more _ _ _ _ (age_more (age_of claim kept.state) _) (near_more (age_of claim kept.state) _),
                  (or_more _ _ _ _ (ttl_more _ claim.ttl) (default_more kept.state), tt),
                ),
              ),
            ),
          ),
        ),
      ),
    ),
  )

  among_more : (among : Among) (position : ℕ) (state : Stored) → is_looked_at among claim position state ≡ true → is_looked_at among wider position state ≡ true
  unfolding wider
  among_more Any position state is = is
  among_more InWindow position state is = is
  among_more Recent position state is = is

  pass_more : (n : ℕ) (among : Among) (h : List Item) → Pass n among claim h → Pass n among wider h
  unfolding wider
  pass_more n among h p = record {
    position = p.position;
    kept = p.kept;
    is_one = among_more among p.position p.kept.state p.is_one;
    is_its_state = p.is_its_state;
    holds = take_more n (filters claim p.kept) (filters wider p.kept) (filters_more p.kept) p.holds (omega arith);
  }

  carries_more : (method : List ℕ) (status : ℕ) (body : List ℕ) → carries claim method status body ≡ true → carries wider method status body ≡ true
  unfolding wider
  carries_more method status body is =
      and_more _ _ _ _ same (or_more _ _ _ _ same (or_more _ _ _ _ (is_part_more status body) (no_part_more status body))) is

  response_more : (forward : Option Forward) (response : Message ResponseHead) → carries_response claim forward response ≡ true → carries_response wider forward response ≡ true
  unfolding wider
  response_more None response is = is
  response_more (Some forward) response is = and_more _ _ _ _ same (carries_more forward.request.method response.head.status response.body) is

  carried_more : (h : List Item) (item : Item) → is_carried claim h item ≡ true → is_carried wider h item ≡ true
  unfolding wider
  carried_more h (OriginResponse number moment response) is = and_more _ _ _ _ same (response_more (forward_of number h) response) is
  carried_more h item is = is

  some_carried : (since : ℕ) (h : List Item) → some_since (is_carried claim) since h ≡ true → some_since (is_carried wider) since h ≡ true
  some_carried since [] is = is
  some_carried since (item ∷ h) is = or_more _ _ _ _ (and_more _ _ _ _ same (carried_more h item)) (some_carried since h) is

  stored_more : (inferred : Bool) (h : List Item) → CarriesStored inferred claim h → CarriesStored inferred wider h
  stored_more false h pass = pass_more 7 Any h pass
  stored_more true h (inl pass) = inl (pass_more 9 Any h pass)
  stored_more true h (inr pass) = inr (pass_more 7 Recent h pass)

  forwarded_more : (judged : Bool) (h : List Item) → IsRightForwarded judged claim h → IsRightForwarded judged wider h
  unfolding wider
  forwarded_more true h pass = pass_more 8 InWindow h pass
  forwarded_more false h (inl carried) = inl (some_carried claim.since h carried)
  forwarded_more false h (inr stored) = inr (stored_more claim.is_inferred h stored)

  right_by_more : (mark : Mark) (h : List Item) → IsRightBy mark claim h → IsRightBy mark wider h
  unfolding wider
  right_by_more (Hit ttl) h pass = pass_more 9 Any h pass
  right_by_more (Forwarded collapsed) h right = forwarded_more (is_judged_collapsed claim.format collapsed) h right
  right_by_more Both h right = right
  right_by_more Unmarked h right = unmarked_more claim.settings.unmarked settings.unmarked more.unmarked claim.reply.head.status right

-- ---- of settings

module _ (format : Format) (less settings : Settings) (more : LetsPassMore settings less) where
  same_infers : (forwarded : Bool) (reply : Message ResponseHead) → infers format settings.allowed forwarded reply ≡ infers format less.allowed forwarded reply
  same_infers forwarded reply =
      ap (λ (b : Bool). b && tells_causes format && says_nothing (mark_of reply.head.fields) && nat_lt reply.head.status 400 && (forwarded || not (reply.head.status == partial_content)))
      more.allowed.inferred_marks

  same_mark_by : (forwarded : Bool) (reply : Message ResponseHead) → mark_by format settings.allowed forwarded reply ≡ mark_by format less.allowed forwarded reply
  same_mark_by forwarded reply = ap (λ (b : Bool). if b then inferred_mark forwarded else reply_mark reply) (same_infers forwarded reply)

  same_mark_to : (o : Option Exchange) (reply : Message ResponseHead) (h : List Item) → mark_to format settings o reply h ≡ mark_to format less o reply h
  same_mark_to None reply h = refl
  same_mark_to (Some exchange) reply h = same_mark_by (has_forward exchange h) reply

  same_claim : (exchange : Exchange) (moment : ℕ) (reply : Message ResponseHead) (h : List Item)
      → under settings (claim_of format less exchange moment reply h) ≡ claim_of format settings exchange moment reply h
  same_claim exchange moment reply h = λ i. record {
    format = format;
    exchange = exchange.number;
    request = exchange.request;
    target = exchange.target;
    since = exchange.position;
    reply = reply;
    moment = moment;
    is_inferred = sym (same_infers (has_forward exchange h) reply) i;
    ttl = (claim_of format less exchange moment reply h).ttl;
    has_error = (claim_of format less exchange moment reply h).has_error;
    has_failure = (claim_of format less exchange moment reply h).has_failure;
    settings = settings;
  }

  right_to_more : (o : Option Exchange) (moment : ℕ) (reply : Message ResponseHead) (h : List Item) → IsRightTo format less o moment reply h → IsRightTo format settings o moment reply h
  unfolding wider
  right_to_more None moment reply h right = right
  right_to_more (Some exchange) moment reply h right =
      let claim = claim_of format less exchange moment reply h in
      let mark = mark_to format less (Some exchange) reply h in
      subst (λ (m : Mark). IsRightBy m (claim_of format settings exchange moment reply h) h) (sym (same_mark_to (Some exchange) reply h))
      (subst (λ (c : Claim). IsRightBy mark c h) (same_claim exchange moment reply h) (right_by_more claim settings more mark h right))

  right_widened : (h : List Item) (item : Item) → IsRight format less h item → IsRight format settings h item
  right_widened h (ClientReply number moment reply) right = right_to_more (exchange_of number h) moment reply h right
  right_widened h item right = tt

  all_widened : (h : List Item) → AllRight format less h → AllRight format settings h
  all_widened [] all = tt
  all_widened (item ∷ h) all = (all_widened h all.0, right_widened h item all.1)

  same_item_mark : (h : List Item) (item : Item) → item_mark format less h item ≡ item_mark format settings h item
  same_item_mark h (ClientReply number moment reply) = ap Some (sym (same_mark_to (exchange_of number h) reply h))
  same_item_mark h item = refl

  same_counts : (h : List Item) → counts_of format less h ≡ counts_of format settings h
  same_counts [] = refl
  same_counts (item ∷ h) = λ i. marked (same_item_mark h item i) (one_more (same_counts h i))

pub right_more : (format : Format) (more less : Settings) (h : List Item) (item : Item) → LetsPassMore more less → IsRight format less h item → IsRight format more h item
right_more format more less h item lets right = right_widened format less more lets h item right

pub yes_more : (octets : List ℕ) (more less : Settings) (counts : Counts) → LetsPassMore more less → IsAllRight octets less counts → IsAllRight octets more counts
yes_more octets more less counts lets y = record {
  format = y.format;
  records = y.records;
  history = y.history;
  is_transcript = y.is_transcript;
  all_right = all_widened y.format less more lets y.history y.all_right;
  counts_are = y.counts_are ∙ same_counts y.format less more lets y.history;
}

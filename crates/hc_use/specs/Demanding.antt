-- Which section of an RFC asks what may be stored and used, and where none does.
use Rattle.std.specs.Prelude.{ℕ, Bool, ◌&&◌, ◌||◌, true, false, not, nat_le, ℤ, pos, ◌-ℤ◌, nat_abs, List, Option, Some, None, codes, if◌then◌else◌}
use Rattle.std.specs.Int.{abs_diff}
use Rattle.hc_history.specs.declared.reasons.Reason.{Reason}
use Rattle.hc_history.specs.declared.reasons.Reason.TheVariants as reason
use Rattle.hc_use.specs.declared.aging.AgeGap.{AgeGap}
use Rattle.hc_use.specs.declared.aging.AgeTold.{AgeTold}
use Rattle.hc_use.specs.declared.aging.AgeTold.TheVariants.{Missing, Several, Unreadable, Seconds}
use Rattle.hc_use.specs.declared.aging.TtlGap.{TtlGap}
use Rattle.hc_use.specs.declared.storing.Forbids.{Forbids}
use Rattle.hc_use.specs.declared.usage.Unusable.{Unusable}
use Rattle.hc_use.specs.declared.usage.Unusable.TheVariants.{NoCache, MustRevalidate, ProxyRevalidate, SMaxage, NothingPermits}
use Rattle.hc_use.specs.declared.usage.Usage.{Usage}
use Rattle.hc_use.specs.Trusting.{age_by_age_alone, is_fresh_at, is_fresh_by_age_alone}

-- ---- where no RFC asks it, the section that permits what was done

abbrev pub others_of_no_cache : List ℕ
others_of_no_cache = codes "no RFC (RFC 9111 section 5.2.2.4 lets the rest be used of what says no-cache of some fields), but this auditor's stricter rule"

abbrev pub heuristics : List ℕ
heuristics = codes "no RFC (RFC 9111 section 4.2.2 permits heuristics), but this auditor's stricter rule"

abbrev pub no_number : List ℕ
no_number = codes "no RFC (RFC 9111 section 4.2.1 encourages a cache to take as stale what says no number, and asks no more), but this auditor's stricter rule"

abbrev pub age_alone : List ℕ
age_alone = codes "no RFC (RFC 9111 section 4.2.3 lets a cache count by Age alone), but this auditor's stricter rule"

abbrev pub lifetime_given : List ℕ
lifetime_given = codes "no RFC (RFC 9211 section 2.4 counts a lifetime that the cache itself gives), but this auditor's stricter rule"

abbrev pub error_as_none : List ℕ
error_as_none = codes "no RFC (RFC 9111 section 4.3.3 lets a cache take an error for no answer, and give what is stale), but this auditor's stricter rule"

abbrev pub no_age_after_304 : List ℕ
no_age_after_304 = codes "no RFC (RFC 9111 section 4 asks for an Age where what is stored is used without validation), but this auditor's stricter rule"

abbrev pub other_methods : List ℕ
other_methods = codes "no RFC (RFC 9111 section 3 permits this), but this auditor's stricter rule"

abbrev pub other_statuses : List ℕ
other_statuses = codes "no RFC (RFC 9111 section 3 lets parts and other statuses be stored by a cache that understands them), but this auditor's stricter rule"

abbrev pub understanding : List ℕ
understanding = codes "no RFC (RFC 9111 section 5.2.2.3 lets what says must-understand be stored by a cache that understands its status), but this auditor's stricter rule"

abbrev pub before_recording : List ℕ
before_recording = codes "no RFC (RFC 9111 section 4 lets a cache give what it stored before the recording), but this auditor's stricter rule"

-- ---- of a reply of which no stored response falls short (RFC 9211 section 2)

abbrev pub made_itself : List ℕ
made_itself = codes "no RFC (RFC 9211 section 2.2 lets a cache mark so what it makes itself), but this auditor's stricter rule"

abbrev pub no_mark : List ℕ
no_mark = codes "no RFC (RFC 9211 section 2 lets a cache leave Cache-Status out), but this auditor's stricter rule"

abbrev pub stored_before : List ℕ
stored_before = codes "no RFC (RFC 9111 section 4 lets what is stored answer what waited), but this auditor's stricter rule"

-- what went forward may be of the cache's own making, and what was collapsed may be what was stored before
abbrev pub reason_sections : Reason → Bool → List ℕ
reason_sections reason.NotForwarded may_be = if may_be then made_itself else codes "RFC 9211 section 2.2"
reason_sections reason.Unmarked may_be = no_mark
reason_sections reason.BothMarks may_be = codes "RFC 9211 section 2.1"
reason_sections reason.NotCollapsible may_be = if may_be then stored_before else codes "RFC 9211 section 2.6"
reason_sections other may_be = before_recording

-- ---- of what may not be stored, by the first thing that forbids it (RFC 9111 section 3)

-- what a cache that understands the status or the method may store
abbrev pub stricter_sections : Forbids → List ℕ
stricter_sections forbids =
    if forbids.must_understand then understanding else
    (if forbids.status then other_statuses else
    (if forbids.method then other_methods else before_recording))

abbrev pub status_sections : Forbids → List ℕ
status_sections forbids =
    if forbids.partial then codes "RFC 9111 section 3.3" else
    (if forbids.uninvited then codes "RFC 9111 section 3" else
    (if forbids.uncacheable then codes "RFC 9110 section 9.3" else
    (if forbids.by_head then codes "RFC 9111 section 4" else stricter_sections forbids)))

abbrev pub storing_sections : Forbids → List ℕ
storing_sections forbids =
    if forbids.request_no_store then codes "RFC 9111 section 5.2.1.5" else
    (if forbids.authorization then codes "RFC 9111 section 3.5" else
    (if forbids.no_store then codes "RFC 9111 section 5.2.2.5" else
    (if forbids.private then codes "RFC 9111 section 5.2.2.7" else status_sections forbids)))

-- ---- of what may not be used (RFC 9111 sections 4.2.2, 4.2.4 and 5.2.2)

abbrev pub says_no_cache : Unusable → Bool
says_no_cache NoCache = true
says_no_cache MustRevalidate = false
says_no_cache ProxyRevalidate = false
says_no_cache SMaxage = false
says_no_cache NothingPermits = false

-- of what is stale, by what forbids that, after an error of the origin or not
abbrev pub stale_sections : Unusable → Bool → List ℕ
stale_sections MustRevalidate after_error = codes "RFC 9111 section 5.2.2.2"
stale_sections ProxyRevalidate after_error = codes "RFC 9111 section 5.2.2.8"
stale_sections SMaxage after_error = codes "RFC 9111 section 5.2.2.10"
stale_sections NothingPermits after_error = if after_error then error_as_none else codes "RFC 9111 section 4.2.4"
stale_sections NoCache after_error = if after_error then error_as_none else codes "RFC 9111 section 4.2.4"

-- no-cache of fields alone that the reply leaves out forbids nothing else: what says it is used as if it didn't
abbrev pub use_sections : Usage → Bool → Bool → List ℕ
use_sections usage leaves_out after_error =
    if says_no_cache usage.forbidden && not leaves_out then codes "RFC 9111 section 5.2.2.4" else
    (if says_no_cache usage.forbidden && (is_fresh_at usage usage.age || usage.is_permitted) then others_of_no_cache else
    (if not usage.is_read then no_number else
    (if is_fresh_by_age_alone usage then age_alone else stale_sections usage.forbids_stale after_error)))

-- of what states no lifetime
abbrev pub lifetime_sections : Usage → Bool → List ℕ
lifetime_sections usage leaves_out =
    if says_no_cache usage.forbidden && not leaves_out then codes "RFC 9111 section 5.2.2.4" else
    (if not usage.may_be_guessed then codes "RFC 9111 section 4.2.2" else
    (if says_no_cache usage.forbidden then others_of_no_cache else heuristics))

-- ---- of the Age (RFC 9111 sections 4, 4.2.3 and 5.1)

abbrev pub is_about : Option ℕ → ℕ → ℕ → Bool
is_about None told slack = false
is_about (Some counted) told slack = nat_le (abs_diff counted told) slack

abbrev pub told_sections : AgeTold → AgeGap → Bool → Bool → List ℕ
told_sections Missing gap for_it validated = if for_it then no_age_after_304 else codes "RFC 9111 section 4"
told_sections Several gap for_it validated = codes "RFC 9111 section 5.1"
told_sections Unreadable gap for_it validated = codes "RFC 9111 section 5.1"
told_sections (Seconds told) gap for_it validated =
    if is_about (age_by_age_alone gap.parts) told gap.slack then age_alone else
    (if validated then codes "RFC 9111 sections 4.2 and 5.1" else codes "RFC 9111 sections 4 and 4.2.3")

-- by what the reply tells, and by whether a 304 validated the response for the request itself, or at all
abbrev pub age_sections : AgeGap → Bool → Bool → List ℕ
age_sections gap for_it validated = told_sections gap.told gap for_it validated

-- ---- of the seconds of the mark (RFC 9211 section 2.4)

-- those are what is left of the lifetime at that age, as far as the audit is told to look
abbrev pub is_ttl_about : TtlGap → Option ℕ → Option ℤ → Bool
is_ttl_about gap None told = false
is_ttl_about gap (Some age) None = false
is_ttl_about gap (Some age) (Some told) = nat_le (nat_abs (told -ℤ (pos gap.lifetime -ℤ pos age))) gap.slack

-- by whether the response states its lifetime, and by its Age alone
abbrev pub ttl_sections : TtlGap → List ℕ
ttl_sections gap =
    if not gap.is_stated then lifetime_given else
    (if is_ttl_about gap (age_by_age_alone gap.parts) gap.told then age_alone else codes "RFC 9211 section 2.4")

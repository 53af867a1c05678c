-- Which section of an RFC asks what a reply has of a response, and where none does.
use Rattle.std.specs.Prelude.{ℕ, Bool, ◌&&◌, ◌||◌, true, false, not, ◌==◌, nat_lt, is_some, List, Option, Some, None, bytes_eq, codes, length, if◌then◌else◌}
use Rattle.std.specs.List.{list_all, list_any}
use Rattle.std.specs.Option.{option_map}
use Rattle.hc_fields.specs.declared.fields.Field.{Field}
use Rattle.hc_fields.specs.Values.{has_name}
use Rattle.hc_fresh.specs.DateLines.{date_stated}
use Rattle.hc_fresh.specs.Lifetimes.{says}
use Rattle.hc_rules.specs.Conditions.{client_condition, is_not_later, only_date, repeated_names}
use Rattle.hc_update.specs.declared.stored.Stored.{Stored}
use Rattle.hc_history.specs.Claims.{Claim}
use Rattle.hc_gaps.specs.declared.contents.Content.{Content}
use Rattle.hc_gaps.specs.declared.contents.Content.TheVariants.{OfNoSuccess, OfSuccess, ByDate, Unearned, Unsatisfied, Part, Evaluated, Failed, Transformed, Other}
use Rattle.hc_gaps.specs.declared.contents.ContentGap.{ContentGap}
use Rattle.hc_gaps.specs.declared.differing.Change.{Change}
use Rattle.hc_gaps.specs.declared.differing.Change.TheVariants.{Added, Dropped, Changed}
use Rattle.hc_gaps.specs.declared.differing.Differences.{Differences}
use Rattle.hc_gaps.specs.declared.differing.FieldGap.{FieldGap}
use Rattle.hc_gaps.specs.declared.differing.FieldsOrigin.{FieldsOrigin}
use Rattle.hc_gaps.specs.declared.differing.Freedom.{Freedom}
use Rattle.hc_gaps.specs.declared.differing.Freedom.TheVariants.{Nothing, Form, Named, Addition}
use Rattle.hc_gaps.specs.declared.selecting.Selection.{Selection}

-- ---- where no RFC asks it, the section that permits what was done

abbrev pub open_after_304 : List ℕ
open_after_304 = codes "no RFC (RFC 9111 sections 4.1 and 4.3 leave this open), but this auditor's stricter rule"

abbrev pub normalizing : List ℕ
normalizing = codes "no RFC (RFC 9111 section 4.1 lets a cache normalize space, case and order where they mean nothing in a field), but this auditor's stricter rule"

abbrev pub no_name : List ℕ
no_name = codes "no RFC (RFC 9111 section 4.1 says nothing of a member of Vary that is no name), but this auditor's stricter rule"

abbrev pub other_success : List ℕ
other_success = codes "no RFC (RFC 9110 section 13.2.1 lets a condition be asked of whatever is 2xx), but this auditor's stricter rule"

abbrev pub date_for_modified : List ℕ
date_for_modified = codes "no RFC (RFC 9111 section 4.3.2 lets a Date stand for the Last-Modified that isn't there), but this auditor's stricter rule"

abbrev pub transforming : List ℕ
transforming = codes "no RFC (RFC 9110 section 7.7 lets a proxy transform a body, and section 15.3.4 say so), but this auditor's stricter rule"

-- ---- of what Vary doesn't select (RFC 9111 section 4.1)

-- one of the members is *
abbrev pub has_star : Selection → Bool
has_star selection = list_any (λ unmet. bytes_eq unmet.member (codes "*")) selection.unmet.items

-- the requests differ by what they mean in a field that one of them names
abbrev pub has_named_other : Selection → Bool
has_named_other selection = list_any (λ unmet. unmet.is_name && not unmet.is_form) selection.unmet.items

-- the same, or perhaps, since not all members are told
abbrev pub has_other : Selection → Bool
has_other selection = not (selection.more == 0) || has_named_other selection

-- each of the members names a field
abbrev pub names_all : Selection → Bool
names_all selection = list_all (λ unmet. unmet.is_name) selection.unmet.items

-- a 304 came, or none, that Vary alone kept from validating the response
abbrev pub selecting_sections : Selection → Bool → List ℕ
selecting_sections selection after_304 =
    if has_star selection || has_other selection then (if after_304 then open_after_304 else codes "RFC 9111 section 4.1") else
    (if names_all selection then normalizing else no_name)

-- ---- of the status and the body (RFC 9111 sections 4 and 4.3.2, RFC 9110 sections 14.2 and 15.5.17)

-- a 304 without a body, which no condition of the request earns where it breaks the rule of the body
abbrev pub is_304 : Claim → Bool
is_304 claim = claim.reply.head.status == 304 && length claim.reply.body == 0

-- the condition is If-Modified-Since, which holds by the Date of the response, since it has no Last-Modified
abbrev pub is_by_date : Claim → Stored → Bool
is_by_date claim state =
    not (has_name (codes "if-none-match") claim.request.fields || has_name (codes "last-modified") state.fields)
    && is_not_later (Some state.times.date) (only_date (codes "if-modified-since") claim.request.fields)

-- the response is a success of another status than 200, for which the condition holds
abbrev pub is_of_success : Claim → Stored → Bool
is_of_success claim state = nat_lt state.status 300 && client_condition claim.request.fields 200 state.fields

abbrev pub unearned_sections : Claim → Stored → List ℕ
unearned_sections claim state =
    if not (state.status == 200) then (if is_of_success claim state then other_success else codes "RFC 9111 section 4.3.2") else
    (if is_by_date claim state then date_for_modified else codes "RFC 9111 section 4.3.2")

-- a 203, by which a proxy says that it transforms the body of the response, which doesn't forbid that
abbrev pub is_transformed : Claim → Stored → Bool
is_transformed claim state = claim.reply.head.status == 203 && state.status == 200 && not (says (codes "no-transform") state.fields)

abbrev pub whole_sections : Claim → Stored → List ℕ
whole_sections claim state = if is_transformed claim state then transforming else codes "RFC 9111 section 4"

-- of a 412: a condition that origins alone evaluate isn't a cache's to fail
abbrev pub failing_sections : Claim → List ℕ
failing_sections claim =
    if has_name (codes "if-match") claim.request.fields then codes "RFC 9111 section 4.3.2" else
    (if has_name (codes "if-unmodified-since") claim.request.fields then codes "RFC 9111 section 4.3.2" else codes "RFC 9111 section 4")

-- a reply of that status, where parts are judged as parts
abbrev pub is_ranged : ℕ → Claim → Bool
is_ranged status claim = claim.reply.head.status == status && claim.settings.allowed.ranges

abbrev pub content_sections : Claim → Stored → List ℕ
content_sections claim state =
    if is_304 claim then unearned_sections claim state else
    (if is_ranged 416 claim then codes "RFC 9110 section 15.5.17" else
    (if is_ranged 206 claim then codes "RFC 9110 section 14.2" else
    (if claim.reply.head.status == 412 then failing_sections claim else whole_sections claim state)))

-- the same by what was found of it
abbrev pub found_sections : Content → List ℕ
found_sections OfNoSuccess = codes "RFC 9111 section 4.3.2"
found_sections OfSuccess = other_success
found_sections ByDate = date_for_modified
found_sections Transformed = transforming
found_sections (Unearned condition) = codes "RFC 9111 section 4.3.2"
found_sections Unsatisfied = codes "RFC 9110 section 15.5.17"
found_sections Part = codes "RFC 9110 section 14.2"
found_sections (Evaluated condition) = codes "RFC 9111 section 4.3.2"
found_sections (Failed condition) = codes "RFC 9111 section 4"
found_sections Other = codes "RFC 9111 section 4"

abbrev pub gap_sections : ContentGap → List ℕ
gap_sections gap = found_sections gap.content

-- ---- of the fields (RFC 9110 sections 6.6.1, 7.7 and 15.4.5, RFC 9111 sections 3.1 and 4.3.4)

abbrev pub written_otherwise : List ℕ
written_otherwise = codes "no RFC (RFC 9110 sections 5.3 and 5.6.1 let lines be joined, and space in lists means nothing), but this auditor's stricter rule"

abbrev pub named_by_directive : List ℕ
named_by_directive = codes "no RFC (RFC 9111 section 3.1 lets what no-cache or private names be left out), but this auditor's stricter rule"

abbrev pub date_of_its_own : List ℕ
date_of_its_own = codes "no RFC (RFC 9110 section 6.6.1 leaves to a cache what it makes of a Date that isn't there or can't be read), but this auditor's stricter rule"

abbrev pub plain_addition : List ℕ
plain_addition = codes "no RFC (RFC 9110 section 7.7 doesn't forbid this), but this auditor's stricter rule"

abbrev pub is_change : Change → Change → Bool
is_change Added Added = true
is_change Dropped Dropped = true
is_change Changed Changed = true
is_change one other = false

abbrev pub is_freedom : Freedom → Freedom → Bool
is_freedom Nothing Nothing = true
is_freedom Form Form = true
is_freedom Named Named = true
is_freedom Addition Addition = true
is_freedom one other = false

-- one of those that are listed became so
abbrev pub has_become : Change → Differences → Bool
has_become change found = list_any (λ gap. is_change gap.change change) found.listed.items

-- the fields of the 304 that freshened the response last, and those with which it came, as far as these are known
abbrev pub renewed_in : FieldsOrigin → Option (List Field)
renewed_in origin = option_map (λ validator. validator.1.now) origin.validator

abbrev pub first_in : FieldsOrigin → Option (List Field)
first_in origin = option_map (λ first. first.now) origin.first

-- the 304 that freshened the response last has that field, as far as that is known
abbrev pub renews : Option (List Field) → List ℕ → Bool
renews None name = false
renews (Some renewed) name = has_name name renewed

-- the response is known to have come without a Date
abbrev pub is_undated : Option (List Field) → Bool
is_undated None = false
is_undated (Some first) = not (has_name (codes "date") first)

-- the Date is the cache's to choose: what told it last, a 304 or the response, has no one Date that can be read, and is no response without any (RFC 9110 section 6.6.1)
abbrev pub frees_date : Option (List Field) → Option (List Field) → Bool
frees_date (Some renewed) first = not (is_some (date_stated renewed))
frees_date None (Some first) = has_name (codes "date") first && not (is_some (date_stated first))
frees_date None None = false

-- nothing permits it: no RFC does, and it isn't another Date, where that is free
abbrev pub is_bound : Bool → FieldGap → Bool
is_bound date_free gap =
    is_freedom gap.freedom Nothing && not (date_free && bytes_eq gap.name (codes "date") && is_change gap.change Changed)

-- the gravest that became of those that aren't listed is that
abbrev pub has_unlisted : Change → Option Change → Bool
has_unlisted became None = false
has_unlisted became (Some gravest) = is_change gravest became

-- one of those that are listed became so that nothing permits
abbrev pub has_listed : Bool → Change → Differences → Bool
has_listed date_free change found = list_any (λ gap. is_change gap.change change && is_bound date_free gap) found.listed.items

-- the same, be it listed or not
abbrev pub has_bound : Bool → Change → Differences → Bool
has_bound date_free change found = has_unlisted change found.unlisted || has_listed date_free change found

-- one of those that are listed, which nothing permits, is the Date
abbrev pub has_bound_date : Bool → Differences → Bool
has_bound_date date_free found = list_any (λ gap. bytes_eq gap.name (codes "date") && is_bound date_free gap) found.listed.items

-- a 304 repeats the field of that name (RFC 9110 section 15.4.5)
abbrev pub is_repeated : List ℕ → Bool
is_repeated name = list_any (λ known. bytes_eq known name) repeated_names

-- one of those that are listed, which nothing permits, is one of these
abbrev pub has_bound_repeated : Bool → Differences → Bool
has_bound_repeated date_free found = list_any (λ gap. is_repeated gap.name && is_bound date_free gap) found.listed.items

-- that permits one of those that are listed
abbrev pub has_freedom : Freedom → Differences → Bool
has_freedom freedom found = list_any (λ gap. is_freedom gap.freedom freedom) found.listed.items

-- the 304 that freshened the response last has one of those that nothing permits
abbrev pub has_renewed : Bool → Option (List Field) → Differences → Bool
has_renewed date_free renewed found = list_any (λ gap. renews renewed gap.name && is_bound date_free gap) found.listed.items

-- where the RFCs permit each
abbrev pub free_sections : Differences → List ℕ
free_sections found =
    if has_freedom Form found then written_otherwise else
    (if has_freedom Named found then named_by_directive else
    (if has_bound false Changed found then date_of_its_own else plain_addition))

-- by what became of them
abbrev pub change_sections : Bool → List ℕ
change_sections dropped = if dropped then codes "RFC 9111 section 3.1" else codes "RFC 9110 section 7.7"

-- one is dropped, or tells of the representation and was added, or is one that a 304 repeats
abbrev pub has_repeated : Bool → Differences → Bool
has_repeated date_free found =
    has_bound date_free Dropped found || has_bound date_free Added found || has_bound_repeated date_free found

-- of those that nothing permits: the Date with which no message came, what a 304 repeats, what the 304 has that freshened the response last, and what became of them
abbrev pub bound_sections : Differences → ℕ → Bool → Option (List Field) → Option (List Field) → List ℕ
bound_sections found status date_free renewed first =
    if (is_undated first && not (renews renewed (codes "date"))) && has_bound_date date_free found then codes "RFC 9110 section 6.6.1" else
    (if status == 304 && has_repeated date_free found then codes "RFC 9110 section 15.4.5" else
    (if has_renewed date_free renewed found then codes "RFC 9111 section 4.3.4" else change_sections (has_bound date_free Dropped found)))

-- by the fields of the 304 that freshened the response last, and by those with which it came, as far as these are known
abbrev pub difference_sections : Differences → ℕ → Option (List Field) → Option (List Field) → List ℕ
difference_sections found status renewed first =
    if not (has_bound (frees_date renewed first) Dropped found) && not (has_bound (frees_date renewed first) Changed found)
    && not (has_bound (frees_date renewed first) Added found) then free_sections found else
    bound_sections found status (frees_date renewed first) renewed first

-- The fields of which a reply has other values than a stored response.
use Rattle.std.specs.Prelude.{◌≡◌, ◌++◌, ◌&&◌, ℕ, Bool, true, false, not, List, [], ◌∷◌, Option, Some, None, drop, filter, map, All, bytes_eq, codes, if◌then◌else◌}
use Rattle.std.specs.List.{list_any}
use Rattle.hc_fields.specs.Values.{has_name}
use Rattle.hc_update.specs.declared.stored.Stored.{Stored}
use Rattle.hc_history.specs.Claims.{Claim}
use Rattle.hc_history.specs.Allowing.{has_its_values, names_of_content}
use Rattle.hc_history.specs.Filters.{compared_names}
use Rattle.hc_gaps.specs.declared.differing.Change.{Change}
use Rattle.hc_gaps.specs.declared.differing.Change.TheVariants.{Added, Dropped, Changed}
use Rattle.hc_gaps.specs.declared.differing.FieldGap.{FieldGap}
use Rattle.hc_gaps.specs.declared.differing.Freedom.{Freedom}
use Rattle.hc_gaps.specs.declared.differing.Freedom.TheVariants.{Nothing, Form, Named, Addition}
use Rattle.hc_gaps.specs.declared.differing.Differences.{Differences}
use Rattle.hc_gaps.specs.Demanding.{is_change, is_freedom}
use Rattle.hc_gaps.specs.Firsts.{AreFirst}
use Rattle.hc_gaps.specs.Forms.{means_the_same, need_not_be_stored}

-- a name is compared, and the values are others, and none that are allowed in their place
abbrev pub differs : Claim → Stored → List ℕ → Bool
differs claim state name = not (has_its_values claim state name)

-- what became of it: the response alone has it, or both, or the reply alone
abbrev pub change_of : Claim → Stored → List ℕ → Change
change_of claim state name =
    if not (has_name name claim.reply.head.fields) then Dropped else
    (if has_name name state.fields then Changed else Added)

-- ---- what permits that it differs

-- it says what a body is (RFC 9110 sections 8 and 14.4)
abbrev pub is_of_content : List ℕ → Bool
is_of_content name = list_any (λ known. bytes_eq known name) names_of_content

-- the fields that are no lists: each means something by each octet, and each line of Set-Cookie something by itself
abbrev pub single_names : List (List ℕ)
single_names = codes "date" ∷ codes "etag" ∷ codes "expires" ∷ codes "last-modified" ∷ codes "set-cookie" ∷ []

abbrev pub is_single : List ℕ → Bool
is_single name = list_any (λ known. bytes_eq known name) single_names

-- where that became of it: it tells of no representation, or the response says that it need not be stored, or both mean the same by a list
abbrev pub freedom_by : Claim → Stored → List ℕ → Change → Freedom
freedom_by claim state name Added = if not (is_of_content name) then Addition else Nothing
freedom_by claim state name Dropped = if need_not_be_stored name state.fields then Named else Nothing
freedom_by claim state name Changed =
    if not (is_single name) && means_the_same name claim.reply.head.fields state.fields false then Form else Nothing

abbrev pub freedom_of : Claim → Stored → List ℕ → Freedom
freedom_of claim state name = freedom_by claim state name (change_of claim state name)

-- a field that differs, with what became of it, and what permits that
pub record IsGap (claim : Claim) (state : Stored) (gap : FieldGap) : Type 0 where
  pub differs_is : differs claim state gap.name ≡ true
  pub change_is : gap.change ≡ change_of claim state gap.name
  pub freedom_is : gap.freedom ≡ freedom_of claim state gap.name

-- ---- which fields differ

-- a name behind others, if it isn't among them
unfoldable pub with_name : List (List ℕ) → List ℕ → List (List ℕ)
with_name names name = if list_any (λ known. bytes_eq known name) names then names else names ++ name ∷ []

-- the same of several, one after another
abbrev pub with_names : List (List ℕ) → List (List ℕ) → List (List ℕ)
with_names names [] = names
with_names names (name ∷ more) = with_names (with_name names name) more

-- the names that are compared and of which the values differ, each once, in their order
abbrev pub differing_in : Claim → Stored → List (List ℕ)
differing_in claim state = filter (differs claim state) (with_names [] (compared_names claim state))

-- how many are listed at most
abbrev pub most_listed : ℕ
most_listed = 20

-- the field of one of those names became so, and nothing permits it
abbrev pub has_unfree : Claim → Stored → Change → List (List ℕ) → Bool
has_unfree claim state change names =
    list_any (λ name. is_change (change_of claim state name) change && is_freedom (freedom_of claim state name) Nothing) names

-- the gravest of what became of some: that one was dropped, or changed, or added
abbrev pub gravest_of : Bool → Bool → Bool → Option Change
gravest_of true changed added = Some Dropped
gravest_of false true added = Some Changed
gravest_of false false true = Some Added
gravest_of false false false = None

-- the same of the fields of those names that nothing permits
abbrev pub gravest_in : Claim → Stored → List (List ℕ) → Option Change
gravest_in claim state names =
    gravest_of (has_unfree claim state Dropped names) (has_unfree claim state Changed names) (has_unfree claim state Added names)

-- the first of those names are listed, and the others are counted, of which the gravest is told that nothing permits
pub record AreListed (claim : Claim) (state : Stored) (names : List (List ℕ)) (found : Differences) : Type 0 where
  pub each : All (IsGap claim state) found.listed.items
  pub first : AreFirst most_listed names (map (λ (gap : FieldGap). gap.name) found.listed.items) found.more
  pub gravest : found.unlisted ≡ gravest_in claim state (drop most_listed names)

-- all that differ are told so
abbrev pub AreDifferences : Claim → Stored → Differences → Type 0
AreDifferences claim state found = AreListed claim state (differing_in claim state) found

-- ---- what private functions return

-- the graver of both
abbrev pub graver : Change → Change → Change
graver Dropped other = Dropped
graver Changed Dropped = Dropped
graver Changed Changed = Changed
graver Changed Added = Changed
graver Added other = other

-- the gravest of what there was, and of what became of one more field, if nothing permits that
abbrev pub gravest_with : Option Change → Change → Bool → Option Change
gravest_with None change unfree = if unfree then Some change else None
gravest_with (Some gravest) change unfree = if unfree then Some (graver gravest change) else Some gravest

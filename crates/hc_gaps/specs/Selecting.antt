-- By which members of its Vary a stored response doesn't answer a request (RFC 9111 section 4.1).
use Rattle.std.specs.Prelude.{◌≡◌, ℕ, Bool, ◌&&◌, true, not, List, filter, map, codes, bytes_eq, All}
use Rattle.hc_fields.specs.Lists.{members_of}
use Rattle.hc_fields.specs.Tokens.{is_token}
use Rattle.hc_update.specs.declared.stored.Stored.{Stored}
use Rattle.hc_history.specs.Allowing.{is_met_or_normalized}
use Rattle.hc_history.specs.Claims.{Claim}
use Rattle.hc_gaps.specs.declared.selecting.Selection.{Selection}
use Rattle.hc_gaps.specs.declared.selecting.UnmetMember.{UnmetMember}
use Rattle.hc_gaps.specs.Firsts.{AreFirst}
use Rattle.hc_gaps.specs.Forms.{means_the_same}

-- it is that member: whether it names a field, and whether both requests mean the same by that
pub record IsMember (claim : Claim) (state : Stored) (member : List ℕ) (found : UnmetMember) : Type 0 where
  pub member_is : found.member ≡ member
  pub names : found.is_name ≡ (is_token member && not (bytes_eq member (codes "*")))
  pub form : found.is_form ≡ means_the_same member state.request.fields claim.request.fields true

-- it is the member that it says
abbrev pub IsTold : Claim → Stored → UnmetMember → Type 0
IsTold claim state found = IsMember claim state found.member found

-- a member is neither met nor passed over
abbrev pub is_unmet : Claim → Stored → List ℕ → Bool
is_unmet claim state member = not (is_met_or_normalized claim state member)

-- the members of its Vary that are so, in order
abbrev pub unmet_in : Claim → Stored → List (List ℕ)
unmet_in claim state = filter (is_unmet claim state) (members_of (codes "vary") state.fields)

-- how many are named at most
abbrev pub most_named : ℕ
most_named = 8

-- the first of those members are named, and the others are counted
pub record AreNamed (claim : Claim) (state : Stored) (members : List (List ℕ)) (found : Selection) : Type 0 where
  pub each : All (IsTold claim state) found.unmet.items
  pub first : AreFirst most_named members (map (λ (one : UnmetMember). one.member) found.unmet.items) found.more

-- all of them are told so
abbrev pub AreUnmet : Claim → Stored → Selection → Type 0
AreUnmet claim state found = AreNamed claim state (unmet_in claim state) found

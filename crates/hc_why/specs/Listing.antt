-- Which ends of forwards are listed with a reply.
use Rattle.std.specs.Prelude.{◌≡◌, ℕ, Bool, true, false, ◌&&◌, nat_lt, unwrap_or, is_some, List, Option, Some, None, All, IfSome, if◌then◌else◌}
use Rattle.hc_head.specs.Statuses.{not_modified}
use Rattle.hc_head.specs.Targets.{same_target}
use Rattle.hc_update.specs.States.{invalidates}
use Rattle.hc_history.specs.Claims.{Claim}
use Rattle.hc_gaps.specs.declared.against.Against.{Against}
use Rattle.hc_gaps.specs.declared.against.Against.TheVariants.{Earlier}
use Rattle.hc_gaps.specs.declared.against.Against.TheVariants as against
use Rattle.hc_gaps.specs.Against.{against_of}
use Rattle.hc_why.specs.declared.changes.Ends.{Ends}
use Rattle.hc_why.specs.declared.changes.NotAbout.{NotAbout}
use Rattle.hc_why.specs.declared.changes.NotAboutIt.{NotAboutIt}
use Rattle.hc_past.specs.declared.past.End.{End}
use Rattle.hc_past.specs.declared.past.Heads.{Heads}
use Rattle.hc_past.specs.declared.shortfalls.Nearest.{Nearest}

-- of the claim's target
abbrev pub is_of : Claim → End → Bool
is_of claim end = same_target end.target claim.target

-- of it, and something forbids to store it
abbrev pub is_unstored : Claim → End → Bool
is_unstored claim end = is_of claim end && is_some end.forbids

-- of it, and behind the request
abbrev pub is_behind : Claim → End → Bool
is_behind claim end = is_of claim end && nat_lt claim.since end.named.position

-- behind the response that is named as that is: behind the 304 that freshened it last, or else behind itself
abbrev pub is_since_it : Nearest → End → Bool
is_since_it nearest end = nat_lt (unwrap_or nearest.state.now.validated_at nearest.position) end.named.position

-- a response that invalidates what is stored
abbrev pub has_invalidated : List ℕ → Option ℕ → Bool
has_invalidated method None = false
has_invalidated method (Some status) = invalidates method status

-- it invalidated the response that is named as that is
abbrev pub is_invalidator : Claim → Option Nearest → End → Bool
is_invalidator claim None end = false
is_invalidator claim (Some nearest) end = is_of claim end && (is_since_it nearest end && has_invalidated end.method end.status)

-- what stands against it as a 304 about that response, if something does: it came before, or else what the definitions of 304s say
abbrev pub against_told : Nearest → End → Heads → Option Against
against_told nearest end heads =
    if nat_lt end.named.position nearest.position then Some Earlier else against_of nearest.state.now heads.forward heads.response

-- it is a 304 of the target that isn't about that response, for that
pub record IsNotAbout (claim : Claim) (nearest : Nearest) (one : NotAbout) : Type 0 where
  pub of_target : is_of claim one.end.now ≡ true
  pub heads : Heads
  pub has : one.end.now.heads ≡ Some heads
  pub is : heads.response.status ≡ not_modified
  pub against : against_told nearest one.end.now heads ≡ Some one.against

abbrev pub IsNotAboutOf : Claim → Option Nearest → NotAbout → Type 0
IsNotAboutOf claim None one = ⊥
IsNotAboutOf claim (Some nearest) one = IsNotAbout claim nearest one

-- Vary is what stands against it
abbrev pub is_selecting : Against → Bool
is_selecting against.Method = false
is_selecting against.ForwardNoStore = false
is_selecting against.Private = false
is_selecting against.NoStore = false
is_selecting against.Unselected = true
is_selecting against.Earlier = false
is_selecting (against.Validators telling) = false

-- its Vary alone keeps it from being about the response: its validator is that of the response
abbrev pub is_unselected : NotAbout → Bool
is_unselected one = one.agrees && is_selecting one.against

-- the 304s that aren't about it are such ones; the latest of those of which no RFC says so, and of those that Vary alone keeps from being about it, are of these, and there is
-- none only where none of those that are listed is one
pub record AreNotAbout (claim : Claim) (nearest : Option Nearest) (found : NotAboutIt) : Type 0 where
  pub listed : All (IsNotAboutOf claim nearest) found.listed.named.items
  pub stricter : IfSome found.stricter (λ one. IsNotAboutOf claim nearest one × (one.is_stricter ≡ true))
  pub unselected : IfSome found.unselected (λ one. IsNotAboutOf claim nearest one × (is_unselected one ≡ true))
  pub none_stricter : found.stricter ≡ None → All (λ one. one.is_stricter ≡ false) found.listed.named.items
  pub none_unselected : found.unselected ≡ None → All (λ one. is_unselected one ≡ false) found.listed.named.items

-- what is listed is so
pub record Lists (claim : Claim) (nearest : Option Nearest) (ends : Ends) : Type 0 where
  pub unstored : All (λ end. is_unstored claim end.now ≡ true) ends.unstored.named.items
  pub window : All (λ end. is_behind claim end.now ≡ true) ends.window.named.items
  pub invalidators : All (λ end. is_invalidator claim nearest end.now ≡ true) ends.invalidators.named.items
  pub not_about : AreNotAbout claim nearest ends.not_about

-- What the store is asked, and what that makes of it; memory leaves open no more than the store says.
use Rattle.std.specs.Prelude.{◌≡◌, ℕ, Bool, true, false, ◌&&◌, ◌==◌, List, Option, Some}
use Rattle.hc_fields.specs.declared.fields.Field.{Field}
use Rattle.hc_head.specs.declared.head.ResponseHead.{ResponseHead}
use Rattle.hc_head.specs.declared.head.Target.{Target}
use Rattle.hc_head.specs.Methods.{is_get}
use Rattle.hc_head.specs.Statuses.{not_modified}
use Rattle.hc_framing.specs.declared.message.Message.{Message}
use Rattle.hc_rules.specs.Storing.{may_store}
use Rattle.hc_update.specs.declared.stored.Stored.{Stored}
use Rattle.hc_update.specs.States.{initial_state, invalidates}
use Rattle.hc_store.specs.declared.putting.Put.{Put}
use Rattle.hc_store.specs.declared.putting.Put.TheVariants as put
use Rattle.hc_store.specs.Entries.{Holdings, variants_of}
use Rattle.hc_store.specs.Choosing.{chosen_validated}
use Rattle.hc_store.specs.Changes.{Validation}
use Rattle.hc_store.specs.Calls.{Chooses, Puts, Freshens, invalidated}
use Rattle.hc_service.specs.declared.open.OpenForward.{OpenForward}

-- the one where a test holds, the other where it doesn't
abbrev pub OnTest : Bool → Type 0 → Type 0 → Type 0
OnTest true one other = one
OnTest false one other = other

-- a stored response is chosen for a request of those fields, if one selects it; the store finds the memory that this takes
abbrev pub Finds : Target → List Field → Holdings → Option Stored → Holdings → Type 0
Finds target asked old chosen new = Chooses target asked old (Some chosen) new

-- the response that the record at that position validated, and that the request selects
abbrev pub validated_by : Target → List Field → ℕ → Holdings → Option Stored
validated_by target asked position store = chosen_validated asked position (variants_of target store.entries)

-- whether a response was put
abbrev pub is_put : Put → Bool
is_put put.Stored = true
is_put put.SetsCookie = false
is_put put.TooLarge = false
is_put put.NoMemory = false

-- a response is put where it may be stored, and it is told whether it was (RFC 9111 section 3)
pub record PutsResponse (forward : OpenForward) (moment : ℕ) (response : Message ResponseHead) (old : Holdings) (stored : Bool) (new : Holdings) : Type 0 where
  pub answer : Put
  pub puts : Puts forward.target (initial_state forward.request forward.moment response moment) old answer new
  pub stored_is : stored ≡ is_put answer

abbrev pub Stores : OpenForward → ℕ → Message ResponseHead → Holdings → Bool → Holdings → Type 0
Stores forward moment response old stored new =
    OnTest (may_store forward.request response.head) (PutsResponse forward moment response old stored new) ((stored ≡ false) × (new ≡ old))

-- what is stored of the target goes where the response is no error and answers an unsafe method (RFC 9111 section 4.4)
abbrev pub Invalidates : OpenForward → ResponseHead → Holdings → Holdings → Type 0
Invalidates forward response old new =
    OnTest (invalidates forward.request.method response.status) (new ≡ invalidated forward.target old) (new ≡ old)

-- a 304 to a GET
abbrev pub may_update : OpenForward → ResponseHead → Bool
may_update forward response = response.status == not_modified && is_get forward.request.method

-- a response as a validation of what is stored, which stands at that position
abbrev pub validation_by : OpenForward → ℕ → ℕ → ResponseHead → Validation
validation_by forward moment position response = record {
  forward = forward.request;
  not_modified = response;
  request_time = forward.moment;
  response_time = moment;
  position = position;
}

-- a 304 to a GET freshens each stored response that it is about, whyever the request went to the origin (RFC 9111 section 4.3.4)
abbrev pub Updates : OpenForward → ℕ → ℕ → ResponseHead → Holdings → Holdings → Type 0
Updates forward moment position response old new =
    OnTest (may_update forward response) (Freshens (validation_by forward moment position response) forward.target old new) (new ≡ old)

-- The target of a request (RFC 9112 sections 3.2 and 3.3).
use Rattle.std.specs.Prelude.{◌≡◌, ℕ, ◌<◌, ◌≤◌, ◌⊎◌, Bool, true, false, ◌&&◌, ◌||◌, List, [], ◌∷◌, ◌++◌, length, slice_index, codes, ◌==◌, if◌then◌else◌, Result, Ok, Err}
use Rattle.std.specs.List.{list_any}
use Rattle.std.specs.Str.{bytes_eq, str_to_ascii_lowercase}
use Rattle.http_uri.specs.Grammar.{IsAuthority, IsPathInput}
use Rattle.hc_fields.specs.declared.fields.Field.{Field}
use Rattle.hc_fields.specs.Values.{values_of}
use Rattle.hc_head.specs.declared.fault.HeadFault.{HeadFault}
use Rattle.hc_head.specs.declared.fault.HeadFault.TheVariants as fault
use Rattle.hc_head.specs.declared.head.RequestHead.{RequestHead}
use Rattle.hc_head.specs.declared.head.Target.{Target}
use Rattle.hc_head.specs.Hosts.{Authority, HasAuthority, normal_host}

-- there is exactly one Host line, and it is that host and that port
pub record HasHost (head : RequestHead) (host : Authority) : Type 0 where
  pub line : List ℕ
  pub one_line : values_of (codes "host") head.fields ≡ line ∷ []
  pub is_authority : HasAuthority line host

-- what ends an authority: a path or a query begins there
abbrev pub is_path_start : ℕ → Bool
is_path_start b = b == 47 || b == 63

-- a path from the root, and a query or none (RFC 9112 section 3.2.1)
pub record IsOriginForm (text : List ℕ) : Type 0 where
  pub from_root : slice_index text 0 ≡ 47
  pub is_path : IsPathInput text

-- the text is `http://`, in any case, and then that (RFC 9110 section 4.2.1)
pub record FollowsScheme (text behind : List ℕ) : Type 0 where
  pub scheme : List ℕ
  pub is_http : str_to_ascii_lowercase scheme ≡ codes "http://"
  pub spelled : text ≡ scheme ++ behind

-- a URI of the scheme http: its authority, and a path and a query, of which both may be absent (RFC 9112 section 3.2.2)
pub record IsAbsoluteForm (text : List ℕ) (authority : Authority) (rest : List ℕ) : Type 0 where
  pub name : List ℕ
  pub has_scheme : FollowsScheme text (name ++ rest)
  pub is_name : IsAuthority name
  pub is_authority : HasAuthority name authority
  pub ends_name : 0 < length rest → is_path_start (slice_index rest 0) ≡ true
  pub is_rest : (rest ≡ []) ⊎ IsPathInput rest

-- the forms of a target that names something of an origin; of the absolute form, its authority and what follows that
pub data Form : Type 0 where
  Origin : Form
  Absolute : (authority : Authority) (rest : List ℕ) → Form
  Asterisk : Form

-- the request's target has the form; the asterisk is for OPTIONS alone (RFC 9112 section 3.2.4)
abbrev pub HasForm : RequestHead → Form → Type 0
HasForm head Origin = IsOriginForm head.target
HasForm head (Absolute authority rest) = IsAbsoluteForm head.target authority rest
HasForm head Asterisk = (head.target ≡ codes "*") × (head.method ≡ codes "OPTIONS")

-- whatever the form: CONNECT asks for a tunnel, and a target has no fragment and at most 65,534 octets
pub record MayName (head : RequestHead) : Type 0 where
  pub no_tunnel : bytes_eq head.method (codes "CONNECT") ≡ false
  pub no_fragment : list_any (λ b. b == 35) head.target ≡ false
  pub short : length head.target ≤ 65534

-- what the target names
pub record NamesForm (head : RequestHead) (form : Form) : Type 0 where
  pub may_name : MayName head
  pub has_form : HasForm head form

-- the authority of the URI that is asked for: that of the absolute form, else that of the Host line (RFC 9112 section 3.3)
abbrev pub target_authority : Authority → Form → Authority
target_authority host Origin = host
target_authority host (Absolute authority rest) = authority
target_authority host Asterisk = host

-- the path and the query of the absolute form: an empty path is `/`, but `*` for OPTIONS without a query (RFC 9112 section 3.2.4)
abbrev pub absolute_path : List ℕ → List ℕ → List ℕ
absolute_path method [] = if bytes_eq method (codes "OPTIONS") then codes "*" else codes "/"
absolute_path method (b ∷ rest) = if b == 63 then 47 ∷ b ∷ rest else b ∷ rest

-- the path and the query of the URI that is asked for
abbrev pub target_path : RequestHead → Form → List ℕ
target_path head Origin = head.target
target_path head (Absolute authority rest) = absolute_path head.method rest
target_path head Asterisk = head.target

-- the target: the host in lower case without a port that says nothing, and the path with its query, octet by octet
pub record HasTarget (head : RequestHead) (target : Target) : Type 0 where
  pub host : Authority
  pub form : Form
  pub has_host : HasHost head host
  pub names : NamesForm head form
  pub host_is : target.host ≡ normal_host (target_authority host form)
  pub path_is : target.path ≡ target_path head form

-- the field that tells the host (RFC 9110 section 7.2)
abbrev pub host_field : List ℕ → Field
host_field host = record { name = codes "host"; value = host }

-- each answer stands only where this says so
abbrev pub GivesTarget : Result Target HeadFault → RequestHead → Type 0
GivesTarget (Ok target) head = HasTarget head target
GivesTarget (Err fault.Syntax) head = ⊥
GivesTarget (Err fault.TooManyFields) head = ⊥
GivesTarget (Err fault.TooLong) head = ⊥
GivesTarget (Err fault.Host) head = (host : Authority) → ¬ (HasHost head host)
GivesTarget (Err fault.Target) head = ((host : Authority) × HasHost head host) × ((form : Form) → ¬ (NamesForm head form))
GivesTarget (Err fault.Memory) head = Unit {0}

-- the target that was read in place of the unit
abbrev pub read_as : Result (Unit {0}) HeadFault → Target → Result Target HeadFault
read_as (Ok done) target = Ok target
read_as (Err f) target = Err f

-- the answer is that target, unless memory ran out
abbrev pub FindsTarget : Result Target HeadFault → Target → Type 0
FindsTarget (Ok found) target = found ≡ target
FindsTarget (Err f) target = f ≡ fault.Memory

-- both are the same host and the same path
abbrev pub same_target : Target → Target → Bool
same_target one other = bytes_eq one.host other.host && bytes_eq one.path other.path

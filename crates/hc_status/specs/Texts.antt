-- The member of Cache-Status that the cache writes (RFC 9211 section 2), without spaces.
use Rattle.std.specs.Prelude.{ℕ, ◌<◌, ◌^◌, Bool, true, false, List, [], ◌∷◌, ◌++◌, ℤ, pos, unsigned_abs, Option, Some, None, codes, decimal, if◌then◌else◌}
use Rattle.std.specs.Fmt.{signed_decimal}
use Rattle.hc_status.specs.declared.cache_status.CacheStatus.{CacheStatus}
use Rattle.hc_status.specs.declared.cache_status.Handling.{Handling}
use Rattle.hc_status.specs.declared.cache_status.Handling.TheVariants as handling
use Rattle.hc_status.specs.declared.items.Bare.TheVariants.{Integer, Token, Bool as Boolean}
use Rattle.hc_status.specs.declared.items.Parameter.{Parameter}
use Rattle.hc_status.specs.declared.items.Member.{Member}
use Rattle.hc_status.specs.declared.marks.Mark.{Mark}
use Rattle.hc_status.specs.declared.marks.Mark.TheVariants as mark
use Rattle.hc_status.specs.Grammar.{IsToken}

-- the seconds left (RFC 9211 section 2.4)
abbrev pub ttl_text : Option ℤ → List ℕ
ttl_text None = []
ttl_text (Some ttl) = codes ";ttl=" ++ signed_decimal ttl

-- the status that the origin gave (RFC 9211 section 2.3)
abbrev pub fwd_status_text : Option ℕ → List ℕ
fwd_status_text None = []
fwd_status_text (Some status) = codes ";fwd-status=" ++ decimal status

-- whether the response was stored (RFC 9211 section 2.5)
abbrev pub stored_text : Bool → List ℕ
stored_text stored = if stored then codes ";stored" else []

-- whether the request waited for the forward of another one (RFC 9211 section 2.6)
abbrev pub collapsed_text : Bool → List ℕ
collapsed_text collapsed = if collapsed then codes ";collapsed" else []

-- how the request was handled
abbrev pub handling_text : Handling → List ℕ
handling_text (handling.Hit ttl) = codes ";hit" ++ ttl_text ttl
handling_text (handling.Fwd word status stored collapsed) =
    codes ";fwd=" ++ word ++ fwd_status_text status ++ stored_text stored ++ collapsed_text collapsed

-- the cache's name, and how it handled the request
abbrev pub member_text : CacheStatus → List ℕ
member_text status = status.name ++ handling_text status.handling

-- ---- reading back

-- the number keeps to the fifteen digits of an Integer
abbrev pub HasShortTtl : Option ℤ → Type 0
HasShortTtl None = Unit {0}
HasShortTtl (Some ttl) = unsigned_abs ttl < 10 ^ 15

-- the status keeps to them
abbrev pub HasShortStatus : Option ℕ → Type 0
HasShortStatus None = Unit {0}
HasShortStatus (Some status) = status < 10 ^ 15

-- numbers have at most fifteen digits, and the word is a Token
abbrev pub IsPlainHandling : Handling → Type 0
IsPlainHandling (handling.Hit ttl) = HasShortTtl ttl
IsPlainHandling (handling.Fwd word status stored collapsed) = IsToken word × HasShortStatus status

-- name and word are Tokens, and numbers have at most fifteen digits
pub record IsPlain (status : CacheStatus) : Type 0 where
  pub name : IsToken status.name
  pub handling : IsPlainHandling status.handling

-- the mark that the member is written for
abbrev pub written_mark : Handling → Mark
written_mark (handling.Hit ttl) = mark.Hit ttl
written_mark (handling.Fwd word status stored collapsed) = mark.Forwarded collapsed

-- a parameter that stands alone
unfoldable pub flag : List ℕ → Parameter
flag key = record { key = key; value = Boolean true }

-- the parameters that a member is written with
unfoldable pub ttl_params : Option ℤ → List Parameter
ttl_params None = []
ttl_params (Some ttl) = record { key = codes "ttl"; value = Integer ttl } ∷ []

unfoldable pub status_params : Option ℕ → List Parameter
status_params None = []
status_params (Some status) = record { key = codes "fwd-status"; value = Integer (pos status) } ∷ []

unfoldable pub stored_params : Bool → List Parameter
stored_params true = flag (codes "stored") ∷ []
stored_params false = []

unfoldable pub collapsed_params : Bool → List Parameter
collapsed_params true = flag (codes "collapsed") ∷ []
collapsed_params false = []

unfoldable pub handling_params : Handling → List Parameter
handling_params (handling.Hit ttl) = (flag (codes "hit") ∷ []) ++ ttl_params ttl
handling_params (handling.Fwd word status stored collapsed) =
    (((record { key = codes "fwd"; value = Token word } ∷ []) ++ status_params status) ++ stored_params stored) ++ collapsed_params collapsed

-- the member that is written
unfoldable pub written_member : CacheStatus → Member
written_member status = record { item = Token status.name; params = handling_params status.handling }

-- The cases of a whole request. The first that holds decides; the store is asked from the fourth on, but for whoever waits there.
use Rattle.std.specs.Prelude.{ℕ, Bool, true, false, ◌&&◌, ◌||◌, not, List, Option, Some, None, codes, if◌then◌else◌}
use Rattle.hc_fields.specs.declared.fields.Field.{Field}
use Rattle.hc_head.specs.declared.head.RequestHead.{RequestHead}
use Rattle.hc_framing.specs.declared.message.Message.{Message}
use Rattle.hc_fresh.specs.Lifetimes.{says}
use Rattle.hc_update.specs.declared.stored.Stored.{Stored}
use Rattle.hc_service.specs.declared.cases.Cause.{Cause}
use Rattle.hc_service.specs.declared.cases.Cause.TheVariants.{Method, Bypass, NoStore, UriMiss, VaryMiss, Stale, Request}
use Rattle.hc_service.specs.declared.cases.Case.{Case as GivenCase}
use Rattle.hc_service.specs.declared.cases.Case.TheVariants as given
use Rattle.hc_service.specs.Asking.{is_answered_by_store, is_bypass}
use Rattle.hc_service.specs.Joining.{is_joinable}
use Rattle.hc_service.specs.Serving.{is_fresh, may_be_served}

-- what becomes of a request once the store was asked
pub data Case : Type 0 where
  -- the stored response that it selects is its reply
  Hit : (stored : Stored) → Case
  -- it goes to the origin
  Forward : (why : Cause) → Case

-- ---- the cases, each for itself

-- 1: its method is one that the store doesn't answer
abbrev pub has_other_method : Message RequestHead → Bool
has_other_method request = not (is_answered_by_store request.head.method)

-- 2: only the origin can answer it
abbrev pub asks_origin : Message RequestHead → Bool
asks_origin request = is_bypass request

-- 3: nothing of it may be stored (RFC 9111 section 5.2.1.5)
abbrev pub forbids_storing : Message RequestHead → Bool
forbids_storing request = says (codes "no-store") request.head.fields

-- 4: nothing is stored of its target
abbrev pub has_no_entry : Bool → Bool
has_no_entry known = not known

-- 4, where another request's forward is open that it may wait for: what answers that one may answer it too
abbrev pub may_wait : RequestHead → Bool → Bool
may_wait asked known = is_joinable asked && has_no_entry known

-- 5: of its target something is stored, but nothing that selects it
abbrev pub is_selected_by_none : Option Stored → Bool
is_selected_by_none None = true
is_selected_by_none (Some stored) = false

-- 6: the chosen stored response may be served
abbrev pub is_served : List Field → Stored → ℕ → Bool
is_served asked stored moment = may_be_served asked stored moment

-- 7: otherwise. It is to be validated, since it isn't fresh or has no-cache, or else since the request asks for more
abbrev pub cause_of_stored : Stored → ℕ → Cause
cause_of_stored stored moment = if not (is_fresh stored moment) || says (codes "no-cache") stored.fields then Stale else Request

-- ---- the first that holds

-- before the store is asked
abbrev pub case_before_store : Message RequestHead → Option Cause
case_before_store request =
    if has_other_method request then Some Method
    else if asks_origin request then Some Bypass
    else if forbids_storing request then Some NoStore
    else None

-- with what the store chose, if it chose anything
abbrev pub case_by_store : List Field → Bool → Option Stored → ℕ → Case
case_by_store asked known None moment = if has_no_entry known then Forward UriMiss else Forward VaryMiss
case_by_store asked known (Some stored) moment =
    if is_served asked stored moment then Hit stored else Forward (cause_of_stored stored moment)

-- the case that the code answers
abbrev pub case_of : GivenCase → Case
case_of (given.Hit stored) = Hit stored.now
case_of (given.Forward why) = Forward why

-- ---- what is said of each (RFC 9211 section 2.2)

abbrev pub word_of : Cause → List ℕ
word_of Method = codes "method"
word_of Bypass = codes "bypass"
word_of NoStore = codes "bypass"
word_of UriMiss = codes "uri-miss"
word_of VaryMiss = codes "vary-miss"
word_of Stale = codes "stale"
word_of Request = codes "request"

-- whether it goes to the origin in spite of a stored response that it selects, which may be asked after
abbrev pub is_of_stored : Cause → Bool
is_of_stored Method = false
is_of_stored Bypass = false
is_of_stored NoStore = false
is_of_stored UriMiss = false
is_of_stored VaryMiss = false
is_of_stored Stale = true
is_of_stored Request = true

-- whether the store was asked, so that what answers may be stored, and what is stored may take its place
abbrev pub asks_store : Cause → Bool
asks_store Method = false
asks_store Bypass = false
asks_store NoStore = false
asks_store UriMiss = true
asks_store VaryMiss = true
asks_store Stale = true
asks_store Request = true

-- What the laws of storing, selecting and forwarding speak of.
use Rattle.std.specs.Prelude.{◌≡◌, ℕ, ◌≤◌, false, List, length, IsTrue, codes}
use Rattle.std.specs.Str.{str_to_ascii_lowercase}
use Rattle.hc_fields.specs.declared.fields.Field.{Field}
use Rattle.hc_fields.specs.Values.{values_of, has_name}
use Rattle.hc_fields.specs.Tokens.{is_token}
use Rattle.hc_head.specs.declared.head.RequestHead.{RequestHead}
use Rattle.hc_head.specs.declared.head.ResponseHead.{ResponseHead}
use Rattle.hc_head.specs.declared.head.Target.{Target}
use Rattle.hc_rules.specs.Passing.{IsReceivedRequest}
use Rattle.hc_head.specs.Targets.{HasTarget}
use Rattle.hc_head.specs.Writable.{has_framing}
use Rattle.hc_fresh.specs.Lifetimes.{says}

-- a GET with no Authorization that doesn't say no-store
pub record IsPlainRequest (forward : RequestHead) : Type 0 where
  pub get : forward.method ≡ codes "GET"
  pub no_authorization : has_name (codes "authorization") forward.fields ≡ false
  pub may_be_stored : says (codes "no-store") forward.fields ≡ false

-- a 200 that says neither no-store nor private
pub record IsPlainResponse (response : ResponseHead) : Type 0 where
  pub ok : response.status ≡ 200
  pub may_be_stored : says (codes "no-store") response.fields ≡ false
  pub may_be_shared : says (codes "private") response.fields ≡ false

-- a member of Vary that names a field, of which both requests have the same lines
pub record NamesSameLines (forwarded presented : List Field) (member : List ℕ) : Type 0 where
  pub token : IsTrue (is_token member)
  pub no_asterisk : ¬ (member ≡ codes "*")
  pub same : values_of (str_to_ascii_lowercase member) forwarded ≡ values_of (str_to_ascii_lowercase member) presented

-- a name of a cache: a token of at most 32 octets
pub record IsCacheName (name : List ℕ) : Type 0 where
  pub token : IsTrue (is_token name)
  pub short : length name ≤ 32

-- a request of a message that was received, whose fields frame no body any more, and its target
pub record IsForwardable (head : RequestHead) (target : Target) : Type 0 where
  pub received : IsReceivedRequest head
  pub no_framing : has_framing head.fields ≡ false
  pub has_target : HasTarget head target

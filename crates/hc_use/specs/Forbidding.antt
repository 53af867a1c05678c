-- What forbids to store a response, and to use a stored one.
use Rattle.std.specs.Prelude.{ℕ, Bool, ◌&&◌, ◌||◌, ◌==◌, not, List, [], ◌∷◌, bytes_eq, codes, if◌then◌else◌}
use Rattle.std.specs.List.{list_any}
use Rattle.hc_fields.specs.declared.fields.Field.{Field}
use Rattle.hc_head.specs.declared.head.RequestHead.{RequestHead}
use Rattle.hc_head.specs.declared.head.ResponseHead.{ResponseHead}
use Rattle.hc_fields.specs.Values.{has_name}
use Rattle.hc_head.specs.Methods.{is_get, is_head}
use Rattle.hc_fresh.specs.Lifetimes.{explicit, says}
use Rattle.hc_rules.specs.Storing.{has_authorization, invites_storing, is_not_private, is_storable, is_understood_if_asked, no_store_permits, permits_authorized}
use Rattle.hc_use.specs.declared.storing.Forbids.{Forbids}
use Rattle.hc_use.specs.declared.usage.Unusable.{Unusable}
use Rattle.hc_use.specs.declared.usage.Unusable.TheVariants as forbids_use

-- ---- to store it (RFC 9111 section 3)

-- the methods of which no response is cacheable (RFC 9110 sections 9.3.4 to 9.3.8)
abbrev pub uncacheable_methods : List (List ℕ)
uncacheable_methods = codes "CONNECT" ∷ codes "DELETE" ∷ codes "OPTIONS" ∷ codes "PUT" ∷ codes "TRACE" ∷ []

-- the response to a request of that method isn't cacheable; to POST one is that states a lifetime, and has a Content-Location (RFC 9110 section 9.3.3)
abbrev pub is_uncacheable : List ℕ → ResponseHead → Bool
is_uncacheable method response =
    list_any (λ known. bytes_eq known method) uncacheable_methods
    || (bytes_eq method (codes "POST") && not (explicit response.fields && has_name (codes "content-location") response.fields))

-- each thing that forbids it, by itself, and what bears on whether it may be stored all the same
abbrev pub forbids_of : RequestHead → ResponseHead → Forbids
forbids_of forward response = record {
  method = not (is_get forward.method);
  by_head = is_head forward.method;
  uncacheable = is_uncacheable forward.method response;
  request_no_store = says (codes "no-store") forward.fields;
  status = not (is_storable response.status);
  partial = response.status == 206;
  must_understand = not (is_understood_if_asked response);
  no_store = not (no_store_permits response.fields);
  private = not (is_not_private response.fields);
  authorization = has_authorization forward && not (permits_authorized response.fields);
  uninvited = not (invites_storing response);
}

-- nothing does
abbrev pub forbids_nothing : Forbids → Bool
forbids_nothing forbids =
    not (forbids.method || forbids.request_no_store || forbids.authorization)
    && not (forbids.status || forbids.must_understand || forbids.no_store || forbids.private)
    && not forbids.uninvited

-- ---- to use it, where it isn't validated and either says no-cache or is stale (RFC 9111 sections 4.2.4 and 5.2.2)

-- the first thing that forbids to give it stale, in the order in which they stand, but for no-cache
abbrev pub forbids_stale : List Field → Unusable
forbids_stale fields =
    if says (codes "must-revalidate") fields then forbids_use.MustRevalidate else
    (if says (codes "proxy-revalidate") fields then forbids_use.ProxyRevalidate else
    (if says (codes "s-maxage") fields then forbids_use.SMaxage else forbids_use.NothingPermits))

-- the first thing that forbids to use it
abbrev pub unusable_by : List Field → Unusable
unusable_by fields = if says (codes "no-cache") fields then forbids_use.NoCache else forbids_stale fields

-- What a shared cache may store (RFC 9111 section 3).
use Rattle.std.specs.Prelude.{ℕ, Bool, ◌&&◌, ◌||◌, ◌==◌, not, List, [], ◌∷◌, codes, nat_le}
use Rattle.std.specs.List.{list_any}
use Rattle.hc_fields.specs.declared.fields.Field.{Field}
use Rattle.hc_fields.specs.Values.{has_name}
use Rattle.hc_head.specs.declared.head.RequestHead.{RequestHead}
use Rattle.hc_head.specs.declared.head.ResponseHead.{ResponseHead}
use Rattle.hc_head.specs.Methods.{is_get}
use Rattle.hc_head.specs.Statuses.{partial_content, not_modified}
use Rattle.hc_fresh.specs.Lifetimes.{says, explicit}

-- ---- statuses

-- a final status that may be stored; not 206, whose reuse isn't judged, and not 304, which only updates (this project's own choice)
abbrev pub is_storable : ℕ → Bool
is_storable status = nat_le 200 status && nat_le status 599 && not (status == partial_content) && not (status == not_modified)

-- the heuristically cacheable statuses, which may be stored where nothing says so (RFC 9110 section 15.1; this project leaves out 206)
abbrev pub heuristically_cacheable_statuses : List ℕ
heuristically_cacheable_statuses = 200 ∷ 203 ∷ 204 ∷ 300 ∷ 301 ∷ 308 ∷ 404 ∷ 405 ∷ 410 ∷ 414 ∷ 501 ∷ []

-- whether the status is one of those
abbrev pub is_heuristically_cacheable : ℕ → Bool
is_heuristically_cacheable status = list_any (λ known. known == status) heuristically_cacheable_statuses

-- whether the cache understands the status, as must-understand asks: those, 302 and 307 (this project's own choice)
abbrev pub is_understood : ℕ → Bool
is_understood status = is_heuristically_cacheable status || status == 302 || status == 307

-- ---- what the request says

-- a GET that doesn't say no-store (section 5.2.1.5)
abbrev pub asks_for_storable : RequestHead → Bool
asks_for_storable forward = is_get forward.method && not (says (codes "no-store") forward.fields)

-- whether the request has Authorization
abbrev pub has_authorization : RequestHead → Bool
has_authorization forward = has_name (codes "authorization") forward.fields

-- ---- what the response says

-- whether must-understand, if it is there, is about a status that is understood (section 5.2.2.3)
abbrev pub is_understood_if_asked : ResponseHead → Bool
is_understood_if_asked response = not (says (codes "must-understand") response.fields) || is_understood response.status

-- whether no-store permits it: it is absent, or must-understand is there as well (sections 5.2.2.3 and 5.2.2.5)
abbrev pub no_store_permits : List Field → Bool
no_store_permits fields = not (says (codes "no-store") fields) || says (codes "must-understand") fields

-- whether private is absent; it counts whatever its argument (section 5.2.2.7)
abbrev pub is_not_private : List Field → Bool
is_not_private fields = not (says (codes "private") fields)

-- whether it permits that what answers an authorized request is shared (section 3.5)
abbrev pub permits_authorized : List Field → Bool
permits_authorized fields = says (codes "must-revalidate") fields || says (codes "public") fields || says (codes "s-maxage") fields

-- whether it says that it may be stored, or its status does
abbrev pub invites_storing : ResponseHead → Bool
invites_storing response = says (codes "public") response.fields || is_heuristically_cacheable response.status || explicit response.fields

-- ---- both

-- whether a shared cache may store the response to that request
abbrev pub may_store : RequestHead → ResponseHead → Bool
may_store forward response =
    asks_for_storable forward
    && is_storable response.status
    && is_understood_if_asked response
    && no_store_permits response.fields
    && is_not_private response.fields
    && (not (has_authorization forward) || permits_authorized response.fields)
    && invites_storing response

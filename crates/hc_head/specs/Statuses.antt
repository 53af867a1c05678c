-- Statuses of which caches treat each in its own way (RFC 9110 section 15).
use Rattle.std.specs.Prelude.{ℕ, ◌≤◌, Bool, ◌&&◌, ◌==◌, [], ◌∷◌, nat_le}
use Rattle.std.specs.List.{list_any}

-- the number of a status: three digits, the first of which is no 0 (RFC 9112 section 4)
abbrev pub IsStatus : ℕ → Type 0
IsStatus number = (100 ≤ number) × (number ≤ 999)

-- a response without content (section 15.3.5)
abbrev pub no_content : ℕ
no_content = 204

-- a response with a part of the content (section 15.3.7)
abbrev pub partial_content : ℕ
partial_content = 206

-- a stored response still holds (section 15.4.5)
abbrev pub not_modified : ℕ
not_modified = 304

-- a response that comes before the final one (section 15.2)
abbrev pub is_interim : ℕ → Bool
is_interim status = nat_le 100 status && nat_le status 199

-- the origin can't answer now, so that a stale response may take the place of this one (RFC 5861 section 4)
abbrev pub is_error_status : ℕ → Bool
is_error_status status = list_any (λ known. known == status) (500 ∷ 502 ∷ 503 ∷ 504 ∷ [])

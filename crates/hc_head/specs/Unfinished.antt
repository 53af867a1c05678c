-- What octets may still become that end within a head (RFC 9112 sections 2.2, 3.2 and 4).
use Rattle.std.specs.Prelude.{◌≡◌, ℕ, ◌⊎◌, Bool, true, false, List, [], ◌∷◌, ◌++◌, slice_index, ◌==◌, if◌then◌else◌, IsUtf8}
use Rattle.std.specs.List.{list_any}
use Rattle.httparse.specs.Ascii.{space, digit_zero}
use Rattle.httparse.specs.Grammar.{is_uri_byte, AllPass}
use Rattle.httparse.specs.Pieces.{is_newline}

-- the octets behind the empty lines that may stand before a head
abbrev pub behind_blank : List ℕ → List ℕ
behind_blank [] = []
behind_blank (b ∷ octets) = if is_newline b then behind_blank octets else b ∷ octets

-- the octets behind the first space
abbrev pub behind_space : List ℕ → List ℕ
behind_space [] = []
behind_space (b ∷ octets) = if b == space then octets else behind_space octets

-- the first digit of a status has come, and it is 0: it stands behind the nine octets of the version and a space
abbrev pub has_low_status : List ℕ → Bool
has_low_status octets = slice_index (behind_blank octets) 9 == digit_zero

-- some octets of a target can follow that make the octets UTF-8
abbrev pub MayBecomeText : List ℕ → Type 0
MayBecomeText octets = (more : List ℕ) × AllPass is_uri_byte more × IsUtf8 (octets ++ more)

-- no octets can follow that make the octets UTF-8
abbrev pub NeverText : List ℕ → Type 0
NeverText octets = (more : List ℕ) → ¬ (IsUtf8 (octets ++ more))

-- what stands behind the method and its space: the target, as far as it has come, and what follows it
abbrev pub target_begun : List ℕ → List ℕ
target_begun octets = behind_space (behind_blank octets)

-- a space has come behind the target
abbrev pub has_ended_target : List ℕ → Bool
has_ended_target octets = list_any (λ b. b == space) (target_begun octets)

-- the target has not ended, and never becomes UTF-8
abbrev pub HasHopelessTarget : List ℕ → Type 0
HasHopelessTarget octets = (has_ended_target octets ≡ false) × NeverText (target_begun octets)

-- the target has ended, or may become UTF-8
abbrev pub MayHaveTarget : List ℕ → Type 0
MayHaveTarget octets = (has_ended_target octets ≡ true) ⊎ MayBecomeText (target_begun octets)

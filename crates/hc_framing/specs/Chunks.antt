-- A chunked body: chunks, a last one without data, and a section of trailer fields (RFC 9112 section 7.1).
use Rattle.std.specs.Prelude.{◌≡◌, ℕ, ◌+◌, ◌<◌, ◌≤◌, ◌⊎◌, List, [], ◌∷◌, ◌++◌, length, drop}
use Rattle.std.specs.List.{concat}
use Rattle.hc_head.specs.Writable.{longest_body}
use Rattle.hc_framing.specs.ChunkLines.{BeginsChunkLine, CanBecomeChunkLine, HasNoChunkLine}
use Rattle.hc_framing.specs.Trailers.{IsTrailerThen, IsOpenTrailer}

-- the octets are a chunk of that data, and then rest
pub record IsChunkThen (octets chunk rest : List ℕ) : Type 0 where
  pub len : ℕ
  pub line : BeginsChunkLine octets (length chunk) len
  pub some : 0 < length chunk
  pub behind : drop len octets ≡ chunk ++ (13 ∷ 10 ∷ rest)

-- the octets are chunks of these data, and then rest
abbrev pub AreChunksThen : List (List ℕ) → List ℕ → List ℕ → Type 0
AreChunksThen [] octets rest = octets ≡ rest
AreChunksThen (chunk ∷ chunks) octets rest = (middle : List ℕ) × (IsChunkThen octets chunk middle × AreChunksThen chunks middle rest)

-- the octets are a chunked body of that data, and then rest
pub record IsChunkedThen (octets body rest : List ℕ) : Type 0 where
  pub chunks : List (List ℕ)
  pub last : List ℕ
  pub are : AreChunksThen chunks octets last
  pub len : ℕ
  pub line : BeginsChunkLine last 0 len
  pub trailer : IsTrailerThen (drop len last) rest
  pub body_is : body ≡ concat chunks

-- no octets can follow that make a front of them a chunked body
abbrev pub NeverHasChunked : List ℕ → Type 0
NeverHasChunked octets = (more body rest : List ℕ) → ¬ (IsChunkedThen (octets ++ more) body rest)

-- the octets are chunks, and then the line of a chunk with which the body is too long
pub record IsTooLong (octets : List ℕ) : Type 0 where
  pub chunks : List (List ℕ)
  pub last : List ℕ
  pub are : AreChunksThen chunks octets last
  pub size : ℕ
  pub len : ℕ
  pub line : BeginsChunkLine last size len
  pub long : longest_body < length (concat chunks) + size

-- the data of a chunk of that size has begun, or the CR LF behind it
abbrev pub IsOpenData : ℕ → List ℕ → Type 0
IsOpenData size octets = (length octets ≤ size) ⊎ ((chunk : List ℕ) × (length chunk ≡ size) × (octets ≡ chunk ++ (13 ∷ [])))

-- the octets begin a chunk that hasn't ended, and with which the body isn't too long, or the end of the body
pub data IsOpenPart (before : ℕ) (octets : List ℕ) : Type 0 where
  OpenLine : CanBecomeChunkLine octets → HasNoChunkLine octets → IsOpenPart before octets
  OpenData : (size len : ℕ) → BeginsChunkLine octets size len → 0 < size → before + size ≤ longest_body → IsOpenData size (drop len octets) → IsOpenPart before octets
  OpenTrailer : (len : ℕ) → BeginsChunkLine octets 0 len → IsOpenTrailer (drop len octets) → IsOpenPart before octets

-- the octets are chunks, and what has begun behind them hasn't ended
pub record IsOpenChunked (octets : List ℕ) : Type 0 where
  pub chunks : List (List ℕ)
  pub last : List ℕ
  pub are : AreChunksThen chunks octets last
  pub short : length (concat chunks) ≤ longest_body
  pub part : IsOpenPart (length (concat chunks)) last

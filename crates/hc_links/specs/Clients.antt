-- Clients, one after another.
use Rattle.std.specs.Prelude.{◌≡◌, ℕ, ◌+◌, List, [], ◌∷◌, Result, Ok, Err}
use Rattle.hc_links.specs.declared.link.LinkFailure.{LinkFailure}

-- what passed at a client's link: the octets that were read from it, those that were written to it, and how often it failed
pub record ServedLink : Type 0 where
  pub given : List ℕ
  pub got : List ℕ
  pub failures : ℕ

-- nothing was read from that link, nothing was written to it, and it has never failed
abbrev pub IsFresh : {L : Type 0} → (L → List ℕ → Type 0) → (L → List ℕ → Type 0) → (L → ℕ → Type 0) → (L → ℕ) → L → Type 0
IsFresh has_given has_got was_read count link = has_given link [] × has_got link [] × was_read link 0 × (count link ≡ 0)

-- one more client came, or once more none did
abbrev pub CountsClient : {L : Type 0} → (ℕ → ℕ → Type 0) → (ℕ → ℕ → Type 0) → Result L LinkFailure → Type 0
CountsClient before after (Ok link) = (clients misses : ℕ) → before clients misses → after (1 + clients) misses
CountsClient before after (Err failure) = (clients misses : ℕ) → before clients misses → after clients (1 + misses)

-- one more link was handed back, at which that has passed
abbrev pub HandsBack : {L : Type 0} → (L → List ℕ → Type 0) → (L → List ℕ → Type 0) → (L → ℕ) → L → (List ServedLink → Type 0) → (List ServedLink → Type 0) → Type 0
HandsBack has_given has_got count link before after =
    (links : List ServedLink) (given got : List ℕ) → has_given link given → has_got link got → before links
    → after (record { given = given; got = got; failures = count link } ∷ links)

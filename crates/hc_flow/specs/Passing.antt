-- What has passed at a stream.
use Rattle.std.specs.Prelude.{◌≡◌, ℕ, Bool, false, List, [], ◌++◌}

-- what held of octets still holds of them
abbrev pub Stays : (List ℕ → Type 0) → (List ℕ → Type 0) → Type 0
Stays before after = (octets : List ℕ) → before octets → after octets

-- a front of what waited was written, and the rest of it waits still
pub record Moves (before after : List ℕ → Type 0) (waited waits : List ℕ) : Type 0 where
  pub front : List ℕ
  pub split : waited ≡ front ++ waits
  pub got : (octets : List ℕ) → before octets → after (octets ++ front)

-- what was written is a beginning of what was sent, and the rest waits, unless the link has failed
pub record Owes {S : Type 0} (has_got : S → List ℕ → Type 0) (stream : S) (failed : Bool) (waits sent : List ℕ) : Type 0 where
  pub got : List ℕ
  pub has_it : has_got stream got
  pub rest : List ℕ
  pub sent_is : sent ≡ got ++ rest
  pub waits_is : failed ≡ false → rest ≡ waits

-- what was heard is a beginning of what was read, and all of it unless the link has failed
pub record Gave {S : Type 0} (has_given : S → List ℕ → Type 0) (stream : S) (failed : Bool) (heard : List ℕ) : Type 0 where
  pub given : List ℕ
  pub has : has_given stream given
  pub rest : List ℕ
  pub given_is : given ≡ heard ++ rest
  pub all : failed ≡ false → rest ≡ []

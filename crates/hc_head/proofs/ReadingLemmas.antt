-- What requests and responses share: an answer that stands only where it says so finds the head that is there.
use Rattle.std.proofs.Common.{◌≤◌, ◌≡◌, ℕ, false, List, [], ◌++◌, Result, Ok, Err, drop, map, sym, ap, subst, ◌∙◌, arith}
use Rattle.std.proofs.lemmas.List.{take-append-drop}
use Rattle.std.proofs.lemmas.Simd.{map-map}
use Rattle.httparse.specs.declared.spans.HeaderSpan.{HeaderSpan}
use Rattle.httparse.specs.Grammar.{Field as Line}
use Rattle.httparse.specs.Spans.{header_bytes, name_and_value}
use Rattle.hc_head.specs.Heads.{lower_field, field_at, field_of}
use Rattle.hc_head.specs.Reading.{IsWholeHead, GivesHead, FindsHead, has_too_many}
use Rattle.hc_head.specs.declared.head.Room.{Room}
use Rattle.hc_head.specs.declared.head.Step.{Step}
use Rattle.hc_head.specs.declared.head.Step.TheVariants.{More, Whole}
use Rattle.hc_head.specs.declared.fault.HeadFault.{HeadFault}
use Rattle.hc_head.specs.declared.fault.HeadFault.TheVariants.{Syntax, TooManyFields, TooLong, Host, Target, Memory}

pub fields_same : (octets : List ℕ) (spans : List HeaderSpan) (lines : List Line)
    → map (header_bytes octets) spans ≡ map name_and_value lines → map (field_at octets) spans ≡ map field_of lines
fields_same octets spans lines e =
    sym (map-map lower_field (header_bytes octets) spans) ∙ ap (map lower_field) e ∙ map-map lower_field name_and_value lines

module _ {H : Type 0} (Begins : List ℕ → H → ℕ → Type 0) (field_count : H → ℕ) where
  abbrev pub IsUnique : Type 0
  IsUnique = (octets more : List ℕ) (h k : H) (m n : ℕ) → Begins octets h m → Begins (octets ++ more) k n → (h ≡ k) × (m ≡ n)

  abbrev pub IsAppended : Type 0
  IsAppended = (octets more : List ℕ) (h : H) (n : ℕ) → Begins octets h n → Begins (octets ++ more) h n

  pub finds_head : IsUnique → IsAppended → (octets : List ℕ) (room : Room) (r : Result (Step H) HeadFault) (head : H) (len : ℕ)
      → GivesHead Begins field_count r octets room → IsWholeHead Begins field_count octets room head len → FindsHead r head len
  finds_head unique append octets room (Ok (Whole found n)) head len gives whole =
      unique octets [] found head n len gives.begins (append octets [] head len whole.begins)
  finds_head unique append octets room (Ok More) head len gives whole = gives.0 head len whole.octets_fit whole.begins
  finds_head unique append octets room (Err Syntax) head len gives whole =
      gives (drop room.octets octets) head len
      (subst (λ (o : List ℕ). Begins o head len) (sym (take-append-drop room.octets octets)) whole.begins)
  finds_head unique append octets room (Err TooManyFields) head len gives whole =
      let over = gives (drop room.octets octets) head len
      (subst (λ (o : List ℕ). Begins o head len) (sym (take-append-drop room.octets octets)) whole.begins) in
      absurd (omega (arith, over, whole.fields_fit))
  finds_head unique append octets room (Err TooLong) head len gives whole = gives.0 head len whole.octets_fit whole.begins
  finds_head unique append octets room (Err Host) head len gives whole = gives
  finds_head unique append octets room (Err Target) head len gives whole = gives
  finds_head unique append octets room (Err Memory) head len gives whole = tt

  -- an answer in less room for fields stands in more, unless it is that there are too many
  pub gives_wider : (octets : List ℕ) (few room : Room) (r : Result (Step H) HeadFault)
      → few.octets ≡ room.octets → few.fields ≤ room.fields → has_too_many r ≡ false
      → GivesHead Begins field_count r octets few → GivesHead Begins field_count r octets room
  gives_wider octets few room (Ok (Whole head len)) same le other gives =
      record { begins = gives.begins; octets_fit = omega (arith, gives.octets_fit, same); fields_fit = omega (arith, gives.fields_fit, le) }
  gives_wider octets few room (Ok More) same le other gives =
      ((λ head len fits. gives.0 head len (omega (arith, fits, same))), omega (arith, gives.1, same))
  gives_wider octets few room (Err Syntax) same le other gives = λ more.
      rw same at gives more
  gives_wider octets few room (Err TooManyFields) same le other gives = absurd (cc (other))
  gives_wider octets few room (Err TooLong) same le other gives =
      ((λ head len fits. gives.0 head len (omega (arith, fits, same))), omega (arith, gives.1, same))
  gives_wider octets few room (Err Host) same le other gives = gives
  gives_wider octets few room (Err Target) same le other gives = gives
  gives_wider octets few room (Err Memory) same le other gives = tt

-- Bodies that are noted as pieces.
use Rattle.std.proofs.Common.{◌≡◌, ℕ, ◌+◌, ◌-◌, ◌<◌, ◌≤◌, true, false, List, ◌++◌, length, take, drop, [], Result, Ok, Err, sym, ap, subst, ◌∙◌, arith, length-drop}
use Rattle.std.proofs.lemmas.Bool.{ne_eqb}
use Rattle.std.proofs.lemmas.List.{drop-drop, take-append-drop, take_all}
use Rattle.hc_fields.specs.Views.{piece}
use Rattle.hc_framing.specs.declared.fault.FrameFault.{FrameFault}
use Rattle.hc_framing.specs.declared.fault.FrameFault.TheVariants.{Head, BothLengths, BadLength, BadCoding, BadChunk, BodyTooLong, Truncated, Memory, Failed}
use Rattle.hc_framing.specs.declared.framing.Framing.{Framing}
use Rattle.hc_framing.specs.declared.framing_reader.FramingReader.{FramingReader}
use Rattle.hc_framing.specs.declared.framing_reader.Part.{Part}
use Rattle.hc_framing.specs.Messages.{BeginsBody, IsWholeBody}
use Rattle.hc_framing.specs.Bodies.{has_octets}
use Rattle.hc_framing.specs.BodyReading.{AgreesFraming, FaultsBody, GivesPart}
use Rattle.hc_framing.specs.WholeParts.{EndsBefore, GivesWholeBody, noted}
use Rattle.hc_framing.proofs.BodyLemmas.{body-append, whole_body, part_within, part_on, part_end}
use Rattle.hc_framing.proofs.WholeLemmas.{none_before}

-- octets behind a body that has none
pub before_octets : (framing : Framing) (octets : List ℕ) → has_octets framing ≡ false → 0 < length octets → EndsBefore framing octets
before_octets framing octets none more = none_before framing octets none (ne_eqb (length octets) 0 (λ is. omega (arith, is, more)))

-- a fault of the body, whatever was noted
pub faults_noted : (result : Result (Unit {0}) FrameFault) (fault : FrameFault) (framing : Framing) (octets body : List ℕ) → result ≡ Err fault
    → FaultsBody fault framing octets → GivesWholeBody (noted result body) framing octets
faults_noted result fault framing octets body is faults =
    subst (λ (r : Result (Unit {0}) FrameFault). GivesWholeBody (noted r body) framing octets) (sym is) (go fault faults)
  where
    go : (f : FrameFault) → FaultsBody f framing octets → GivesWholeBody (Err f) framing octets
    go (Head f) faults = faults
    go BothLengths faults = faults
    go BadLength faults = absurd faults
    go BadCoding faults = faults
    go BadChunk faults = faults
    go BodyTooLong faults = faults
    go Truncated faults = absurd faults
    go Memory faults = faults
    go Failed faults = faults

module _ (octets : List ℕ) (from at : ℕ) (behind : from ≤ at) where
  -- the octets from one place on to another, and those from there on
  pub all_come : length octets ≤ at → take (at - from) (drop from octets) ≡ drop from octets
  all_come all = take_all (at - from) (drop from octets) (omega (arith, all, behind, length-drop from octets))

  pub rest_behind : drop at octets ≡ drop (at - from) (drop from octets)
  rest_behind = ap (λ (n : ℕ). drop n octets) there ∙ sym (drop-drop (at - from) from octets)
    where
      there : at ≡ from + (at - from)
      there = omega (arith, behind)

  pub parts_of : (rest : List ℕ) → rest ≡ drop at octets → take (at - from) (drop from octets) ++ rest ≡ drop from octets
  parts_of rest rest-is =
      ap (λ (o : List ℕ). take (at - from) (drop from octets) ++ o) (rest-is ∙ rest_behind) ∙ take-append-drop (at - from) (drop from octets)

  module _ (framing : Framing) (r : FramingReader) (body kept rest : List ℕ) (part : Part) (rest-is : rest ≡ drop at octets) (more : at < length octets)
      (kept-is : kept ≡ body ++ piece octets at part.body) (gives : GivesPart (Ok part) framing r (take (at - from) (drop from octets)) body rest) where
    kept_of_rest : body ++ take part.body rest ≡ kept
    kept_of_rest = ap (λ (o : List ℕ). body ++ take part.body o) rest-is ∙ sym kept-is

    within : at - from ≤ length (drop from octets)
    within = omega (arith, more, behind, length-drop from octets)

    on : (at - from) + part.used ≡ (at + part.used) - from
    on = omega (arith, behind)

    long : 0 + ((at - from) + part.used) ≡ (at + part.used) - from
    long = omega (arith, behind)

    -- the part lies in the octets
    pub noted_within : at + part.used ≤ length octets
    noted_within =
        omega (arith, behind, more, length-drop from octets, (part_within framing r [] body (drop from octets) rest (at - from) part (rest-is ∙ rest_behind) within gives).1)

    -- behind the part the body goes on
    pub noted_on : part.ends ≡ false → AgreesFraming framing r (take ((at + part.used) - from) (drop from octets)) kept
    noted_on ends =
        subst (λ (x : ℕ × List ℕ). AgreesFraming framing r (take x.0 (drop from octets)) x.1) (λ i. (on i, kept_of_rest i))
        (part_on framing r [] body (drop from octets) rest (at - from) part (rest-is ∙ rest_behind) within gives ends).1

    -- or is whole
    begins : part.ends ≡ true → BeginsBody framing (drop from octets) kept ((at + part.used) - from)
    begins ends =
        let n = (at + part.used) - from in
        let body_there : BeginsBody framing (take n (drop from octets)) kept n =
        subst (λ (x : ℕ × List ℕ × ℕ). BeginsBody framing (take x.0 (drop from octets)) x.1 x.2) (λ i. (on i, kept_of_rest i, long i))
        (part_end framing r [] body (drop from octets) rest (at - from) part (rest-is ∙ rest_behind) within gives ends) in
        subst (λ (o : List ℕ). BeginsBody framing o kept n) (take-append-drop n (drop from octets))
        (body-append framing (take n (drop from octets)) (drop n (drop from octets)) kept n body_there)

    -- before the octets
    pub noted_before : part.ends ≡ true → at + part.used < length octets → EndsBefore framing (drop from octets)
    noted_before ends before = record {
      body = kept;
      len = (at + part.used) - from;
      begins = begins ends;
      more = omega (arith, before, behind, length-drop from octets);
    }

    -- or with them
    pub noted_whole : part.ends ≡ true → length octets ≤ at + part.used → IsWholeBody framing (drop from octets) kept
    noted_whole ends all =
        whole_body framing (drop from octets) kept ((at + part.used) - from) (omega (arith, all, noted_within, behind, length-drop from octets)) (begins ends)

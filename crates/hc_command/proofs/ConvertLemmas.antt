-- What comes of a conversion, by the octets that the input had.
use Rattle.std.proofs.Common.{◌≡◌, ◌∙◌, ℕ, List, ◌++◌, Option, None, Some, ap, append-nil, inl, inr}
use Rattle.std.specs.Io.KnownBytes.{Consumes, IsAtEnd}
use Rattle.hc_command.specs.Convert.{ConvertsFor}

-- an input that was read to its end had those octets
pub converts_input : (input left : Option (List ℕ)) (octets : List ℕ) (status : ℕ) (old new faults_old faults_new : Option (List ℕ)) → Consumes input left octets
    → IsAtEnd left → ConvertsFor (Some octets) status old new faults_old faults_new → ConvertsFor input status old new faults_old faults_new
converts_input input left octets status old new faults_old faults_new consumed end (inl is) = inl is
converts_input None left octets status old new faults_old faults_new consumed end (inr (inl s)) =
    inr (inl (record { has_status = s.has_status; octets = s.octets; were_there = tt; text = s.text; is = s.is; written = s.written; kept = s.kept }))
converts_input None left octets status old new faults_old faults_new consumed end (inr (inr r)) =
    inr (inr (record { octets = r.octets; were_there = tt; position = r.position; fault = r.fault; is = r.is; says = r.says; kept = r.kept }))
converts_input (Some xs) None octets status old new faults_old faults_new consumed end (inr converts) = absurd consumed
converts_input (Some xs) (Some ys) octets status old new faults_old faults_new consumed end (inr (inl s)) =
    let all : xs ≡ octets = consumed ∙ ap (λ (rest : List ℕ). octets ++ rest) end ∙ append-nil octets in
    inr (inl (record { has_status = s.has_status; octets = s.octets; were_there = all ∙ s.were_there; text = s.text; is = s.is; written = s.written; kept = s.kept }))
converts_input (Some xs) (Some ys) octets status old new faults_old faults_new consumed end (inr (inr r)) =
    let all : xs ≡ octets = consumed ∙ ap (λ (rest : List ℕ). octets ++ rest) end ∙ append-nil octets in
    inr (inr (record { octets = r.octets; were_there = all ∙ r.were_there; position = r.position; fault = r.fault; is = r.is; says = r.says; kept = r.kept }))

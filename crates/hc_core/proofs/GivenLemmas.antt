-- The records that answers give out, and their texts.
use Rattle.std.proofs.Common.{◌≡◌, ◌∙◌, ℕ, List, [], ◌∷◌, ◌++◌, Ok, Err, ap, append_assoc, append-nil, refl, sym}
use Rattle.std.proofs.lemmas.Grind.{flat_map-append}
use Rattle.hc_transcript.specs.declared.record.Record.{Record}
use Rattle.hc_transcript.specs.Records.{opening, record_text}
use Rattle.hc_service.specs.Runs.{StepResult, records_given, transcript_of}
use Rattle.hc_service.specs.Sending.{recorded_format}
use Rattle.hc_core.specs.Results.{records_in, texts_of}

-- ---- texts

texts_append : (a b : List Record) → texts_of (a ++ b) ≡ texts_of a ++ texts_of b
texts_append a b = flat_map-append (record_text recorded_format) a b

-- ---- answers

given_first : (answer : StepResult) (results : List StepResult) → records_given (answer ∷ results) ≡ records_in answer ++ records_given results
given_first (Ok actions) results = refl
given_first (Err fault) results = refl

given_append : (a b : List StepResult) → records_given (a ++ b) ≡ records_given a ++ records_given b
given_append [] b = refl
given_append (answer ∷ a) b =
    given_first answer (a ++ b) ∙ ap (λ (t : List Record). records_in answer ++ t) (given_append a b)
    ∙ sym (append_assoc (records_in answer) (records_given a) (records_given b))
    ∙ ap (λ (t : List Record). t ++ records_given b) (sym (given_first answer a))

-- with one answer more
pub given_more : (before : List StepResult) (answer : StepResult) → records_given (before ++ answer ∷ []) ≡ records_given before ++ records_in answer
given_more before answer =
    given_append before (answer ∷ []) ∙ ap (λ (t : List Record). records_given before ++ t) (given_first answer [] ∙ append-nil (records_in answer))

-- and the transcript with its records
pub longer_transcript : (before : List StepResult) (answer : StepResult) (text longer : List ℕ) → text ≡ transcript_of (records_given before)
    → longer ≡ text ++ texts_of (records_in answer) → longer ≡ transcript_of (records_given (before ++ answer ∷ []))
longer_transcript before answer text longer was is =
    is ∙ ap (λ (t : List ℕ). t ++ texts_of (records_in answer)) was
    ∙ append_assoc (opening recorded_format) (texts_of (records_given before)) (texts_of (records_in answer))
    ∙ ap (λ (t : List ℕ). opening recorded_format ++ t)
    (sym (texts_append (records_given before) (records_in answer)) ∙ ap texts_of (sym (given_more before answer)))

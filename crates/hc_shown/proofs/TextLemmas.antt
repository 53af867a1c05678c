-- The text of a record, piece by piece.
use Rattle.std.proofs.Common.{◌≡◌, ◌∙◌, ◌==◌, ◌++◌, ℕ, List, [], false, ap, append_assoc, codes, cond, length, refl, sym}
use Rattle.hc_transcript.specs.declared.item.Meaning.{Meaning}
use Rattle.hc_transcript.specs.declared.item.Meaning.TheVariants as meaning
use Rattle.hc_transcript.specs.Items.{Item, ClientRequest, OriginRequest, OriginResponse, OriginFailure, ClientReply, item_with, moment_of}
use Rattle.hc_shown.specs.Moments.{AddsMoment, moment_text}
use Rattle.hc_shown.specs.Texts.{AddsRecord, body_text, content_text, meaning_of, number_of, place_text, some_text}

-- a body that isn't empty
pub body_written : (octets body old new : List ℕ) → octets ≡ body → (length body == 0) ≡ false → new ≡ old ++ some_text octets → new ≡ old ++ body_text body
body_written octets body old new same some written =
    written ∙ ap (λ (o : List ℕ). old ++ some_text o) same ∙ ap (λ b. old ++ cond b [] (some_text body)) (sym some)

item_added : (position : ℕ) (item : Item) (old placed timed apart new : List ℕ) → placed ≡ old ++ place_text position (number_of item) (meaning_of item)
    → AddsMoment (moment_of item) placed timed → apart ≡ timed ++ codes "  " → new ≡ apart ++ content_text (meaning_of item) → AddsRecord position item old new
item_added position item old placed timed apart new place moment space content =
    let here = place_text position (number_of item) (meaning_of item) in
    let now = moment_text (moment_of item) moment.0 in
    let what = content_text (meaning_of item) in
    let pieces : new ≡ old ++ here ++ now ++ codes "  " ++ what =
    content ∙ ap (λ (l : List ℕ). l ++ what) (space ∙ ap (λ (l : List ℕ). l ++ codes "  ") (moment.2 ∙ ap (λ (l : List ℕ). l ++ now) place)) in (
      (here ++ now) ++ (codes "  " ++ what),
      (here ++ now, (moment.0, moment.1, refl), refl),
      pieces ∙ append_assoc (old ++ here ++ now) (codes "  ") what ∙ ap (λ (l : List ℕ). l ++ (codes "  " ++ what)) (append_assoc old here now)
          ∙ append_assoc old (here ++ now) (codes "  " ++ what),
    )

-- a record is what was put of it
pub record_added : (position number moment : ℕ) (of : Meaning) (old placed timed apart new : List ℕ) → placed ≡ old ++ place_text position number of
    → AddsMoment moment placed timed → apart ≡ timed ++ codes "  " → new ≡ apart ++ content_text of → AddsRecord position (item_with number moment of) old new
record_added position number moment (meaning.ClientRequest request target) old placed timed apart new = item_added position (ClientRequest number moment request target) old placed timed apart new
record_added position number moment (meaning.OriginRequest request target cause) old placed timed apart new =
    item_added position (OriginRequest number moment request target cause) old placed timed apart new
record_added position number moment (meaning.OriginResponse response) old placed timed apart new = item_added position (OriginResponse number moment response) old placed timed apart new
record_added position number moment meaning.OriginFailure old placed timed apart new = item_added position (OriginFailure number moment) old placed timed apart new
record_added position number moment (meaning.ClientReply reply) old placed timed apart new = item_added position (ClientReply number moment reply) old placed timed apart new

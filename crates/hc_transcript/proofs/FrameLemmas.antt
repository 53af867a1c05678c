-- A record in its place.
use Rattle.std.proofs.Common.{◌≡◌, ◌≢◌, ℕ, suc, ◌+◌, ◌<◌, ◌≤◌, List, ◌∷◌, ◌++◌, length, get_or, take, drop, Option, Some, None, sym, ap, subst, ◌∙◌, arith, add-one, inl, inr, length-drop, length-take}
use Rattle.std.proofs.lemmas.List.{take-append-drop}
use Rattle.std.proofs.Math.Seq.{drop-append_seam, drop-cons}
use Rattle.std.proofs.lemmas.List.{get_or-append-add}
use Rattle.hc_transcript.specs.declared.format.Format.{Format}
use Rattle.hc_transcript.specs.declared.fault.RecordFault.{RecordFault}
use Rattle.hc_transcript.specs.declared.fault.RecordFault.TheVariants as fault
use Rattle.hc_transcript.specs.declared.line.Line.{Line}
use Rattle.hc_transcript.specs.Records.{line_text}
use Rattle.hc_transcript.specs.Lines.{IsLineText, BeginsLine}
use Rattle.hc_transcript.specs.Malformed.{IsFramed, IsUnfinished, FailsCheck, BreaksLine}

-- what stands behind the line's text
pub behind_line : (octets text : List ℕ) (end : ℕ) → text ≡ take end octets → end < length octets → (b : BeginsLine octets text) → drop end octets ≡ 10 ∷ b.after
behind_line octets text end text-is lt b =
    let long : length text ≡ end = omega (arith, ap length text-is, length-take end octets) in
    ap (drop end) b.octets_are ∙ ap (λ (k : ℕ). drop k (text ++ 10 ∷ b.after)) (sym long) ∙ drop-append_seam text (10 ∷ b.after)

-- the octet behind the message
pub octet_behind : (octets text after : List ℕ) (size : ℕ) → octets ≡ text ++ 10 ∷ after → get_or octets (length text + size + 1) 0 ≡ get_or (10 ∷ after) (size + 1) 0
octet_behind octets text after size e =
    ap (λ (o : List ℕ). get_or o (length text + size + 1) 0) e ∙ ap (λ (k : ℕ). get_or (text ++ 10 ∷ after) k 0) (omega arith) ∙ get_or-append-add text (10 ∷ after) (size + 1) 0

module _ (format : Format) where
  -- a line that fails a check breaks the octets
  pub breaks_by_check : (check : Line → Option RecordFault) (f : RecordFault) (octets : List ℕ) → FailsCheck format check f octets → BreaksLine format check f octets
  breaks_by_check check fault.Line octets fails = inr (inr (inr fails))
  breaks_by_check check fault.Opening octets fails = fails
  breaks_by_check check fault.Torn octets fails = fails
  breaks_by_check check fault.MomentBack octets fails = fails
  breaks_by_check check fault.Number octets fails = fails
  breaks_by_check check fault.NothingOpen octets fails = fails
  breaks_by_check check fault.Message octets fails = fails
  breaks_by_check check fault.TooLong octets fails = fails
  breaks_by_check check fault.Memory octets fails = fails
  breaks_by_check check fault.Cause octets fails = fails

  -- a line, and enough octets behind it with a line feed at their end
  pub framed_by : (check : Line → Option RecordFault) (octets text message after : List ℕ) (l : Line) → octets ≡ text ++ 10 ∷ after → text ≡ line_text l → IsLineText format (line_text l) l → check l ≡ None
      → l.size < length after → get_or after l.size 0 ≡ 10 → message ≡ take l.size after → IsFramed format check octets l message (length text + l.size + 2)
  framed_by check octets text message after l octets-are text-is is keeps enough feed message-is =
      let tail : drop l.size after ≡ 10 ∷ drop (suc l.size) after = drop-cons after l.size 0 enough ∙ ap (λ (b : ℕ). b ∷ drop (suc l.size) after) feed in
      let after-is : after ≡ message ++ 10 ∷ drop (suc l.size) after =
      sym (take-append-drop l.size after) ∙ ap (λ (t : List ℕ). take l.size after ++ t) tail ∙ ap (λ (t : List ℕ). t ++ 10 ∷ drop (suc l.size) after) (sym message-is) in
      record {
        rest = drop (suc l.size) after;
        octets_are = octets-are ∙ ap (λ (t : List ℕ). t ++ 10 ∷ after) text-is ∙ ap (λ (t : List ℕ). line_text l ++ 10 ∷ t) after-is;
        is = is;
        size_is = omega (arith, ap length message-is, length-take l.size after);
        len_is = omega (arith, ap length text-is);
        keeps = keeps;
      }

  -- ---- the answers, by what the code knows: the text of the first line, and what stands behind it

  -- the text of the first line, as the code cuts it
  begins_text : (octets text : List ℕ) (end : ℕ) → text ≡ take end octets → BeginsLine octets (take end octets) → BeginsLine octets text
  begins_text octets text end text-is begins = subst (λ (t : List ℕ). BeginsLine octets t) (sym text-is) begins

  pub no_line_breaks : (check : Line → Option RecordFault) (octets text : List ℕ) (end : ℕ) → text ≡ take end octets → BeginsLine octets (take end octets)
      → ((l : Line) → ¬ (IsLineText format text l)) → BreaksLine format check fault.Line octets
  no_line_breaks check octets text end text-is begins none = inr (inl (record { text = text; begins = begins_text octets text end text-is begins; none = none }))

  pub check_breaks : (check : Line → Option RecordFault) (octets text : List ℕ) (end : ℕ) (l : Line) (f : RecordFault) → text ≡ take end octets → BeginsLine octets (take end octets)
      → IsLineText format text l → check l ≡ Some f → BreaksLine format check f octets
  check_breaks check octets text end l f text-is begins is fails =
      breaks_by_check check f octets (record { text = text; line = l; has = record { begins = begins_text octets text end text-is begins; is = is }; fails = fails })

  pub wrong_end_breaks : (check : Line → Option RecordFault) (octets text behind : List ℕ) (end : ℕ) (l : Line) → text ≡ take end octets → behind ≡ drop end octets → end < length octets
      → BeginsLine octets (take end octets) → IsLineText format text l → check l ≡ None → l.size + 2 ≤ length behind → get_or behind (l.size + 1) 0 ≢ 10 → BreaksLine format check fault.Line octets
  wrong_end_breaks check octets text behind end l text-is behind-is lt begins is keeps enough wrong =
      let b = begins_text octets text end text-is begins in
      let long : length text ≡ end = omega (arith, ap length text-is, length-take end octets) in
      let tail : behind ≡ 10 ∷ b.after = behind-is ∙ behind_line octets text end text-is lt b in
      inr (inr (inl (record {
        text = text;
        line = l;
        has = record { begins = b; is = is };
        keeps = keeps;
        enough = omega (arith, ap length behind-is, length-drop end octets);
        wrong = λ e. wrong (ap (λ (t : List ℕ). get_or t (l.size + 1) 0) tail ∙ sym (octet_behind octets text b.after l.size b.octets_are) ∙ e);
      })))

  pub unfinished : (check : Line → Option RecordFault) (octets text behind : List ℕ) (end : ℕ) (l : Line) → text ≡ take end octets → behind ≡ drop end octets → end < length octets
      → BeginsLine octets (take end octets) → IsLineText format text l → check l ≡ None → length behind < l.size + 2 → IsUnfinished format check octets
  unfinished check octets text behind end l text-is behind-is lt begins is keeps short =
      let long : length text ≡ end = omega (arith, ap length text-is, length-take end octets) in
      inr (record {
        text = text;
        line = l;
        has = record { begins = begins_text octets text end text-is begins; is = is };
        keeps = keeps;
        short = omega (arith, ap length behind-is, length-drop end octets);
      })

  pub framed_at : (check : Line → Option RecordFault) (octets text behind after message : List ℕ) (end : ℕ) (l : Line) → text ≡ take end octets → behind ≡ drop end octets → end < length octets
      → BeginsLine octets (take end octets) → IsLineText format text l → text ≡ line_text l → check l ≡ None → l.size + 2 ≤ length behind → get_or behind (l.size + 1) 0 ≡ 10
      → after ≡ drop 1 behind → message ≡ take l.size after → IsFramed format check octets l message (end + l.size + 2)
  framed_at check octets text behind after message end l text-is behind-is lt begins is written keeps enough feed after-is message-is =
      let b = begins_text octets text end text-is begins in
      let long : length text ≡ end = omega (arith, ap length text-is, length-take end octets) in
      let tail : behind ≡ 10 ∷ b.after = behind-is ∙ behind_line octets text end text-is lt b in
      let same : after ≡ b.after = after-is ∙ ap (drop 1) tail in
      let feed' : get_or b.after l.size 0 ≡ 10 = sym (ap (λ (k : ℕ). get_or (10 ∷ b.after) k 0) (add-one l.size)) ∙ sym (ap (λ (t : List ℕ). get_or t (l.size + 1) 0) tail) ∙ feed in
      let framed = framed_by check octets text message b.after l b.octets_are written (subst (λ (t : List ℕ). IsLineText format t l) written is) keeps (omega (arith, ap length tail)) feed' (message-is ∙ ap (take l.size) same) in
      subst (λ (n : ℕ). IsFramed format check octets l message n) (omega (arith, long)) framed

-- What was written through a buffer stays so, wherever it lies.
use Rattle.std.proofs.Common.{◌≡◌, ℕ, List, [], ◌++◌, length, take, drop, Result, Ok, Err, sym, ap, ◌∙◌, subst, append_assoc, append-nil}
use Rattle.std.proofs.Math.Seq.{take-length}
use Rattle.std.proofs.lemmas.List.{take-append-drop}
use Rattle.hc_links.specs.declared.link.LinkFailure.{LinkFailure}
use Rattle.hc_links.specs.Buffers.{HasGot, HasKept}
use Rattle.hc_links.specs.Links.{Writes}

module _ {R : Type 0} (has_got : R → List ℕ → Type 0) where
  -- nothing waits
  pub all_got : (link : R) (waiting octets : List ℕ) → waiting ≡ [] → HasGot has_got link waiting octets → has_got link octets
  all_got link waiting octets none had = subst (has_got link) (sym (had.2 ∙ ap (λ (o : List ℕ). had.0 ++ o) none ∙ append-nil had.0)) had.1

  -- the front of what waits is written
  pub front_got : (before after : R) (waiting rest : List ℕ) (n : ℕ) (octets : List ℕ) → rest ≡ drop n waiting
      → ((got : List ℕ) → has_got before got → has_got after (got ++ take n waiting)) → HasGot has_got before waiting octets → HasGot has_got after rest octets
  front_got before after waiting rest n octets is writes had = (
    had.0 ++ take n waiting,
    writes had.0 had.1,
    had.2 ∙ ap (λ (o : List ℕ). had.0 ++ o) (sym (take-append-drop n waiting)) ∙ sym (append_assoc had.0 (take n waiting) (drop n waiting))
        ∙ ap (λ (o : List ℕ). (had.0 ++ take n waiting) ++ o) (sym is),
  )

  -- octets are written to the link behind all that waited
  pub through_got : (before between after : R) (waiting rest : List ℕ) (result : Result ℕ LinkFailure) (octets : List ℕ) → rest ≡ []
      → ((written : List ℕ) → HasGot has_got before waiting written → HasGot has_got between rest written)
      → Writes (has_got between) (has_got after) result octets → Writes (HasGot has_got before waiting) (HasGot has_got after rest) result octets
  through_got before between after waiting rest (Ok n) octets none moved w = (
    w.0,
    w.1,
    λ written had.
        let all = all_got between rest written none (moved written had) in (
          written ++ take n octets,
          w.2 written all,
          sym (append-nil (written ++ take n octets)) ∙ ap (λ (o : List ℕ). (written ++ take n octets) ++ o) (sym none),
        ),
  )
  through_got before between after waiting rest (Err failure) octets none moved w = λ written had.
      let h = moved written had in (h.0, w h.0 h.1, h.2)

  -- octets wait behind those that waited
  pub waiting_got : (before link : R) (waiting left rest octets : List ℕ) → rest ≡ left ++ octets
      → ((written : List ℕ) → HasGot has_got before waiting written → HasGot has_got link left written)
      → (written : List ℕ) → HasGot has_got before waiting written → HasGot has_got link rest (written ++ take (length octets) octets)
  waiting_got before link waiting left rest octets is moved written had =
      let h = moved written had in (
        h.0,
        h.1,
        ap (λ (o : List ℕ). written ++ o) (take-length octets) ∙ ap (λ (o : List ℕ). o ++ octets) h.2 ∙ append_assoc h.0 left octets
            ∙ ap (λ (o : List ℕ). h.0 ++ o) (sym is),
      )

  -- what the link got stands there
  pub all_kept : (link : R) (octets : List ℕ) → has_got link octets → HasKept has_got link octets
  all_kept link octets had = ([], subst (has_got link) (sym (append-nil octets)) had)

  -- what stands at the front stays there, whatever comes behind it
  pub kept_behind : (before after : R) (more kept : List ℕ) → ((got : List ℕ) → has_got before got → has_got after (got ++ more)) → HasKept has_got before kept → HasKept has_got after kept
  kept_behind before after more kept writes had = (had.0 ++ more, subst (has_got after) (append_assoc kept had.0 more) (writes (kept ++ had.0) had.1))

  pub kept_through : (before after : R) (result : Result ℕ LinkFailure) (octets kept : List ℕ) → Writes (has_got before) (has_got after) result octets → HasKept has_got before kept
      → HasKept has_got after kept
  kept_through before after (Ok n) octets kept w had = kept_behind before after (take n octets) kept w.2 had
  kept_through before after (Err failure) octets kept w had = (had.0, w (kept ++ had.0) had.1)

-- what was written before is what was written then
pub written_behind : (before then_got after : List ℕ → Type 0) (result : Result ℕ LinkFailure) (octets : List ℕ) → ((written : List ℕ) → before written → then_got written)
    → Writes then_got after result octets → Writes before after result octets
written_behind before then_got after (Ok n) octets moved w = (w.0, w.1, λ written had. w.2 written (moved written had))
written_behind before then_got after (Err failure) octets moved w = λ written had. w written (moved written had)

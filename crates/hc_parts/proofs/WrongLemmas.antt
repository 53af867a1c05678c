-- The wrong replies of the parts are those of the whole.
use Rattle.std.proofs.Common.{◌≡◌, ◌⊎◌, ℕ, zero, suc, ◌<◌, ◌≤◌, Bool, true, false, cond, List, [], ◌∷◌, ◌++◌, length, refl, sym, ap, subst, ◌∙◌, arith, inl, inr}
use Rattle.std.specs.List.{Contains}
use Rattle.std.specs.Prelude.{slice_index_or}
use Rattle.std.proofs.lemmas.Bool.{cases_Bool}
use Rattle.std.proofs.lemmas.List.Elements.{Contains-append_left, Contains-push}
use Rattle.hc_head.specs.declared.head.Target.{Target}
use Rattle.hc_transcript.specs.declared.format.Format.{Format}
use Rattle.hc_transcript.specs.Items.{Item}
use Rattle.hc_history.specs.declared.reasons.Reason.{Reason}
use Rattle.hc_history.specs.declared.settings.Settings.{Settings}
use Rattle.hc_history.specs.declared.wrong.WrongReply.{WrongReply}
use Rattle.hc_history.specs.Right.{IsWrong}
use Rattle.hc_history.specs.WrongReplies.{AreWrongIn, wrong_after}
use Rattle.hc_history.proofs.VerdictLemmas.{right_wrong, wrong_once}
use Rattle.hc_parts.specs.Joining.{IsWrongInPart, in_whole}
use Rattle.hc_parts.specs.Parts.{KeepsCauses, goes_into, items_in}
use Rattle.hc_parts.specs.Orderly.{AreInTurn}
use Rattle.hc_parts.proofs.OpenLemmas.{targets_kept}
use Rattle.hc_parts.proofs.PartLemmas.{part_of, right_there, wrong_there}
use Rattle.hc_parts.proofs.JoinLemmas.{at_own_place, skipped}

-- ---- lists

by_place : (x y : WrongReply) (xs : List WrongReply) (n : ℕ) → n < length (y ∷ xs) → slice_index_or (y ∷ xs) n x ≡ x → (y ≡ x) ⊎ Contains xs x
by_place x y xs zero lt is = inl is
by_place x y xs (suc n) lt is = inr (n, omega (arith, lt), is)

in_later : (x y : WrongReply) (xs : List WrongReply) → Contains xs x → Contains (y ∷ xs) x
in_later x y xs has = let lt = has.1 in (suc has.0, omega (arith, lt), has.2)

in_none : (x : WrongReply) → Contains [] x → ⊥
in_none x has = let lt = has.1 in omega (arith, lt)

at_last : (xs : List WrongReply) (y x : WrongReply) → Contains (xs ++ y ∷ []) x → Contains xs x ⊎ (y ≡ x)
at_last [] y x has = elim (by_place x y [] has.0 has.1 has.2) [ inl is ↦ inr is | inr none ↦ absurd (in_none x none) ]
at_last (z ∷ xs) y x has = elim (by_place x z (xs ++ y ∷ []) has.0 has.1 has.2) [
  | inl is ↦ inl (0, omega arith, is)
  | inr later ↦ elim (at_last xs y x later) [ inl there ↦ inl (in_later x z xs there) | inr is ↦ inr is ]
]

module _ (part : Target → ℕ) (format : Format) (settings : Settings) where
  -- a wrong reply stands at a position of its history
  wrong_place : (h : List Item) (wrongs : List WrongReply) (wrong : WrongReply) → AreWrongIn format settings h wrongs → Contains wrongs wrong → wrong.position ≤ length h
  wrong_place [] wrongs wrong are has = absurd (in_none wrong (subst (λ (ws : List WrongReply). Contains ws wrong) are has))
  wrong_place (item ∷ h) wrongs wrong (inl was) has = let le = wrong_place h wrongs wrong was.0 has in omega (arith, le)
  wrong_place (item ∷ h) wrongs wrong (inr was) has =
      elim (at_last was.0 (wrong_after h was.1) wrong (subst (λ (ws : List WrongReply). Contains ws wrong) was.4 has)) [
        | inl there ↦ let le = wrong_place h was.0 wrong was.2 there in omega (arith, le)
        | inr is ↦ let at = ap (λ (w : WrongReply). w.position) is in omega (arith, at)
      ]

  -- one item more leaves where it stands in the whole
  whole_later : (k : ℕ) (item : Item) (h : List Item) (wrong : WrongReply) → wrong.position ≤ length (items_in part k h) → in_whole part k (item ∷ h) wrong ≡ in_whole part k h wrong
  whole_later k item h wrong le = λ i. record { position = skipped part k wrong.position (item ∷ []) h le i; reason = wrong.reason }

  -- ---- from a part to the whole

  pub of_part : (k : ℕ) (h : List Item) → AreInTurn h → KeepsCauses part h → (others wrongs : List WrongReply) → AreWrongIn format settings (items_in part k h) others → AreWrongIn format settings h wrongs
      → (other : WrongReply) → Contains others other → Contains wrongs (in_whole part k h other)
  of_part k [] turn joined others wrongs there are other has = absurd (in_none other (subst (λ (ws : List WrongReply). Contains ws other) there has))
  of_part k (item ∷ h) turn joined others wrongs there are other has =
      by_goes (goes_into part k h item) refl there (λ os ws o old was c. of_part k h turn.0 joined.0 os ws old was o c)
    where
      g : List Item
      g = items_in part k h

      -- what was listed before
      listed_before : (os : List WrongReply) → AreWrongIn format settings g os → Contains os other
          → ((os ws : List WrongReply) (o : WrongReply) → AreWrongIn format settings g os → AreWrongIn format settings h ws → Contains os o → Contains ws (in_whole part k h o))
          → Contains wrongs (in_whole part k (item ∷ h) other)
      listed_before os old listed before =
          let later = whole_later k item h other (wrong_place g os other old listed) in
          subst (Contains wrongs) (sym later) (by_whole are)
        where
          by_whole : AreWrongIn format settings (item ∷ h) wrongs → Contains wrongs (in_whole part k h other)
          by_whole (inl was) = before os wrongs other old was.0 listed
          by_whole (inr was) =
              subst (λ (ws : List WrongReply). Contains ws (in_whole part k h other)) (sym was.4)
              (Contains-append_left was.0 (wrong_after h was.1 ∷ []) (in_whole part k h other) (before os was.0 other old was.2 listed))

      -- the newest
      newest : (why : Reason) → goes_into part k h item ≡ true → IsWrong format settings g item why → wrong_after g why ≡ other → Contains wrongs (in_whole part k (item ∷ h) other)
      newest why goes wrong is = by_whole are
        where
          wrong_here : IsWrong format settings h item why
          wrong_here = (wrong_there part k (targets_kept part) format settings h item why turn.0 joined.0 goes).0 wrong

          by_whole : AreWrongIn format settings (item ∷ h) wrongs → Contains wrongs (in_whole part k (item ∷ h) other)
          by_whole (inl was) = absurd (right_wrong format settings h item why was.1 wrong_here)
          by_whole (inr was) =
              let same : why ≡ was.1 = wrong_once format settings h item why was.1 wrong_here was.3 in
              let at : wrong_after h was.1 ≡ in_whole part k (item ∷ h) other =
              (λ i. record { position = sym (at_own_place part k item h goes) i; reason = sym same i }) ∙ ap (in_whole part k (item ∷ h)) is in
              subst (λ (ws : List WrongReply). Contains ws (in_whole part k (item ∷ h) other)) (sym was.4)
              (subst (Contains (was.0 ++ wrong_after h was.1 ∷ [])) at (Contains-push was.0 (wrong_after h was.1)))

      by_part : goes_into part k h item ≡ true → AreWrongIn format settings (item ∷ g) others
          → ((os ws : List WrongReply) (o : WrongReply) → AreWrongIn format settings g os → AreWrongIn format settings h ws → Contains os o → Contains ws (in_whole part k h o))
          → Contains wrongs (in_whole part k (item ∷ h) other)
      by_part goes (inl was) before = listed_before others was.0 has before
      by_part goes (inr was) before =
          elim (at_last was.0 (wrong_after g was.1) other (subst (λ (ws : List WrongReply). Contains ws other) was.4 has)) [
            | inl listed ↦ listed_before was.0 was.2 listed before
            | inr is ↦ newest was.1 goes was.3 is
          ]

      by_goes : (b : Bool) → goes_into part k h item ≡ b → AreWrongIn format settings (cond b (item ∷ g) g) others
          → ((os ws : List WrongReply) (o : WrongReply) → AreWrongIn format settings g os → AreWrongIn format settings h ws → Contains os o → Contains ws (in_whole part k h o))
          → Contains wrongs (in_whole part k (item ∷ h) other)
      by_goes true goes old before = by_part goes old before
      by_goes false apart old before = listed_before others old has before

  -- ---- from the whole to a part

  -- one that is listed in a part, and stands within it
  record IsListed (h : List Item) (wrong : WrongReply) : Type 0 where
    pub listed : IsWrongInPart part format settings h wrong
    pub few : listed.there.position ≤ length (items_in part listed.part_is h)

  one_more : (h : List Item) (item : Item) (wrong : WrongReply) → IsListed h wrong → IsListed (item ∷ h) wrong
  one_more h item wrong was =
      let l = was.listed in
      record {
        listed = record {
          part_is = l.part_is;
          there = l.there;
          wrong_is = l.wrong_is ∙ sym (whole_later l.part_is item h l.there was.few);
          is_listed = λ others are. by_goes l.part_is l.there l.is_listed (goes_into part l.part_is h item) others are;
        };
        few = elim (cases_Bool (goes_into part l.part_is h item)) [
          | inl goes ↦ rw goes (let le = was.few in omega (arith, le))
          | inr apart ↦ rw apart was.few
        ];
      }
    where
      by_goes : (k : ℕ) (there : WrongReply) → ((others : List WrongReply) → AreWrongIn format settings (items_in part k h) others → Contains others there) → (b : Bool) (others : List WrongReply)
          → AreWrongIn format settings (cond b (item ∷ items_in part k h) (items_in part k h)) others → Contains others there
      by_goes k there before true others (inl was) = before others was.0
      by_goes k there before true others (inr was) =
          subst (λ (ws : List WrongReply). Contains ws there) (sym was.4) (Contains-append_left was.0 (wrong_after (items_in part k h) was.1 ∷ []) there (before was.0 was.2))
      by_goes k there before false others are = before others are

  newest_listed : (h : List Item) (item : Item) (why : Reason) → AreInTurn (item ∷ h) → KeepsCauses part (item ∷ h) → IsWrong format settings h item why → IsListed (item ∷ h) (wrong_after h why)
  newest_listed h item why turn joined wrong =
      let k = part_of part h item turn.1 in
      record {
        listed = record {
          part_is = k.0;
          there = wrong_after (items_in part k.0 h) why;
          wrong_is = λ i. record { position = sym (at_own_place part k.0 item h k.1) i; reason = why };
          is_listed = λ others are. in_its_part k.0 k.1 others (subst (λ (b : Bool). AreWrongIn format settings (cond b (item ∷ items_in part k.0 h) (items_in part k.0 h)) others) k.1 are);
        };
        few = rw k.1 (omega arith);
      }
    where
      in_its_part : (k : ℕ) → goes_into part k h item ≡ true → (others : List WrongReply) → AreWrongIn format settings (item ∷ items_in part k h) others → Contains others (wrong_after (items_in part k h) why)
      in_its_part k goes others (inl was) =
          absurd (right_wrong format settings h item why ((right_there part k (targets_kept part) format settings h item turn.0 joined.0 goes).0 was.1) wrong)
      in_its_part k goes others (inr was) =
          let here = (wrong_there part k (targets_kept part) format settings h item was.1 turn.0 joined.0 goes).0 was.3 in
          let same : was.1 ≡ why = wrong_once format settings h item was.1 why here wrong in
          subst (λ (ws : List WrongReply). Contains ws (wrong_after (items_in part k h) why)) (sym was.4)
          (subst (λ (w : Reason). Contains (was.0 ++ wrong_after (items_in part k h) was.1 ∷ []) (wrong_after (items_in part k h) w)) same
          (Contains-push was.0 (wrong_after (items_in part k h) was.1)))

  listed_in_part : (h : List Item) → AreInTurn h → KeepsCauses part h → (wrongs : List WrongReply) → AreWrongIn format settings h wrongs → (wrong : WrongReply) → Contains wrongs wrong → IsListed h wrong
  listed_in_part [] turn joined wrongs are wrong has = absurd (in_none wrong (subst (λ (ws : List WrongReply). Contains ws wrong) are has))
  listed_in_part (item ∷ h) turn joined wrongs (inl was) wrong has = one_more h item wrong (listed_in_part h turn.0 joined.0 wrongs was.0 wrong has)
  listed_in_part (item ∷ h) turn joined wrongs (inr was) wrong has =
      elim (at_last was.0 (wrong_after h was.1) wrong (subst (λ (ws : List WrongReply). Contains ws wrong) was.4 has)) [
        | inl there ↦ one_more h item wrong (listed_in_part h turn.0 joined.0 was.0 was.2 wrong there)
        | inr is ↦ subst (IsListed (item ∷ h)) is (newest_listed h item was.1 turn joined was.3)
      ]

  pub of_whole : (h : List Item) → AreInTurn h → KeepsCauses part h → (wrongs : List WrongReply) → AreWrongIn format settings h wrongs → (wrong : WrongReply) → Contains wrongs wrong
      → IsWrongInPart part format settings h wrong
  of_whole h turn joined wrongs are wrong has = (listed_in_part h turn joined wrongs are wrong has).listed

-- Actions that are carried out, one after another.
use Rattle.std.proofs.Common.{◌≡◌, ◌∙◌, ℕ, ◌+◌, ◌<◌, List, [], ◌∷◌, ◌++◌, Result, Ok, Err, ap, append_assoc, append-nil, drop, get_or, length, refl, subst, sym, take}
use Rattle.std.proofs.lemmas.List.{take-append-drop, take_more}
use Rattle.std.proofs.lemmas.Grind.{flat_map-append}
use Rattle.std.specs.List.{flat_map}
use Rattle.hc_transcript.specs.declared.record.Record.{Record}
use Rattle.hc_transcript.specs.Records.{record_text}
use Rattle.hc_service.specs.declared.action.Action.{Action}
use Rattle.hc_service.specs.declared.action.Action.TheVariants as action
use Rattle.hc_service.specs.Sending.{recorded_format, records_of}
use Rattle.hc_links.specs.Links.{IsBeginning}
use Rattle.hc_order.specs.Log.{Move, carried}
use Rattle.hc_drive.specs.declared.fault.DriveFault.{DriveFault}
use Rattle.hc_drive.specs.Carrying.{AreCut, AreDone, WritesRecord, texts_in}

-- ---- octets behind others that were written

module _ (B M A : List ℕ → Type 0) (front whole : List ℕ) (before : (got : List ℕ) → B got → M (got ++ front)) where
  -- not all of them were, and others would have come behind
  pub writes_part : (text more : List ℕ) → front ++ (text ++ more) ≡ whole → ((got : List ℕ) → M got → (part : List ℕ) × IsBeginning part text × A (got ++ part))
      → (got : List ℕ) → B got → (part : List ℕ) × IsBeginning part whole × A (got ++ part)
  writes_part text more is w got had =
      let part = w (got ++ front) (before got had) in (
        front ++ part.0,
        (
          part.1.0 ++ more,
          sym is ∙ ap (λ (o : List ℕ). front ++ (o ++ more)) part.1.1 ∙ ap (λ (o : List ℕ). front ++ o) (append_assoc part.0 part.1.0 more)
              ∙ sym (append_assoc front part.0 (part.1.0 ++ more)),
        ),
        subst A (append_assoc got front part.0) part.2,
      )

  -- those are the last
  pub writes_last : {T : Type 0} (result : Result T DriveFault) (text : List ℕ) → front ++ text ≡ whole → WritesRecord M A result text → WritesRecord B A result whole
  writes_last (Ok done) text is w = λ got had. subst A (append_assoc got front text ∙ ap (λ (o : List ℕ). got ++ o) is) (w (got ++ front) (before got had))
  writes_last (Err fault) text is w = writes_part text [] (ap (λ (o : List ℕ). front ++ o) (append-nil text) ∙ is) w

pub writes_nothing : (A : List ℕ → Type 0) (whole got : List ℕ) → A got → (part : List ℕ) × IsBeginning part whole × A (got ++ part)
writes_nothing A whole got had = ([], (whole, refl), subst A (sym (append-nil got)) had)

-- ---- more actions

pub records_append : (a b : List Action) → records_of (a ++ b) ≡ records_of a ++ records_of b
records_append [] b = refl
records_append (action.Record r ∷ a) b = ap (λ (t : List Record). r ∷ t) (records_append a b)
records_append (action.ToClient c octets ∷ a) b = records_append a b
records_append (action.CloseClient c ∷ a) b = records_append a b
records_append (action.Forward f octets ∷ a) b = records_append a b
records_append (action.CloseForward f ∷ a) b = records_append a b

pub texts_append : (a b : List Action) → texts_in (a ++ b) ≡ texts_in a ++ texts_in b
texts_append a b = ap (flat_map (record_text recorded_format)) (records_append a b) ∙ flat_map-append (record_text recorded_format) (records_of a) (records_of b)

carried_append : (a b : List Action) (log : List Move) → carried (a ++ b) log ≡ carried b (carried a log)
carried_append [] b log = refl
carried_append (action.Record r ∷ a) b log = carried_append a b log
carried_append (action.ToClient c octets ∷ a) b log = carried_append a b _
carried_append (action.CloseClient c ∷ a) b log = carried_append a b _
carried_append (action.Forward f octets ∷ a) b log = carried_append a b _
carried_append (action.CloseForward f ∷ a) b log = carried_append a b _

behind : (text : List ℕ) (a b : List Action) → (text ++ texts_in a) ++ texts_in b ≡ text ++ texts_in (a ++ b)
behind text a b = append_assoc text (texts_in a) (texts_in b) ∙ ap (λ (t : List ℕ). text ++ t) (sym (texts_append a b))

-- ---- one action

module _ (T : List Move → Type 0) (H : List ℕ → Type 0) (a : Action) (log : List Move) (text : List ℕ) (told : T (carried (a ∷ []) log)) where
  -- it is no record
  pub quiet_done : texts_in (a ∷ []) ≡ [] → H text → AreDone T H (a ∷ []) log text
  quiet_done none held = (told, subst H (sym (append-nil text) ∙ ap (λ (t : List ℕ). text ++ t) (sym none)) held)

  pub written_done : (written : List ℕ) → texts_in (a ∷ []) ≡ written → H (text ++ written) → AreDone T H (a ∷ []) log text
  written_done written is held = (told, subst (λ (t : List ℕ). H (text ++ t)) (sym is) held)

-- of its record a beginning was written
pub one_cut : (T : List Move → Type 0) (H : List ℕ → Type 0) (a : Action) (log : List Move) (text : List ℕ) → T log → (front : List ℕ) → IsBeginning front (texts_in (a ∷ []))
    → H (text ++ front) → AreCut T H (a ∷ []) log text
one_cut T H a log text told front begins held = record {
  done = [];
  last = a;
  left = [];
  actions_are = refl;
  told = told;
  front = front;
  begins = begins;
  held = held;
}

pub nothing_begins : (octets : List ℕ) → IsBeginning [] octets
nothing_begins octets = (octets, refl)

pub begins_alone : (front : List ℕ) (r : Record) → IsBeginning front (record_text recorded_format r) → IsBeginning front (texts_in (action.Record r ∷ []))
begins_alone front r b = subst (IsBeginning front) (sym (append-nil (record_text recorded_format r))) b

-- of no octets nothing was written
pub quiet_cut : (T : List Move → Type 0) (H : List ℕ → Type 0) (a : Action) (log : List Move) (text : List ℕ) → T log → H text → AreCut T H (a ∷ []) log text
quiet_cut T H a log text told held = one_cut T H a log text told [] (nothing_begins (texts_in (a ∷ []))) (subst H (sym (append-nil text)) held)

-- ---- one action behind others

pub none_done : (T : List Move → Type 0) (H : List ℕ → Type 0) (log : List Move) (text : List ℕ) → T log → H text → AreDone T H [] log text
none_done T H log text told held = (told, subst H (sym (append-nil text)) held)

module _ (T : List Move → Type 0) (H : List ℕ → Type 0) (before : List Action) (a : Action) (log : List Move) (text : List ℕ) where
  pub done_more : AreDone T H (a ∷ []) (carried before log) (text ++ texts_in before) → AreDone T H (before ++ a ∷ []) log text
  done_more d = (subst T (sym (carried_append before (a ∷ []) log)) d.0, subst H (behind text before (a ∷ [])) d.1)

  pub cut_more : (left : List Action) → AreCut T H (a ∷ []) (carried before log) (text ++ texts_in before) → AreCut T H (before ++ a ∷ left) log text
  cut_more left c = record {
    done = before ++ c.done;
    last = c.last;
    left = c.left ++ left;
    actions_are = ap (λ (t : List Action). before ++ (t ++ left)) c.actions_are
        ∙ ap (λ (t : List Action). before ++ t) (append_assoc c.done (c.last ∷ c.left) left) ∙ sym (append_assoc before c.done (c.last ∷ (c.left ++ left)));
    told = subst T (sym (carried_append before c.done log)) c.told;
    front = c.front;
    begins = c.begins;
    held = subst H (sym (append_assoc (text ++ texts_in before) (texts_in c.done) c.front)
        ∙ ap (λ (t : List ℕ). t ++ c.front) (behind text before c.done) ∙ append_assoc text (texts_in (before ++ c.done)) c.front) c.held;
  }

-- the next of actions, at an index
module _ (T : List Move → Type 0) (H : List ℕ → Type 0) (actions : List Action) (i : ℕ) (a : Action) (is : a ≡ get_or actions i a) (less : i < length actions) (log : List Move) (text : List ℕ) where
  pub done_next : AreDone T H (a ∷ []) (carried (take i actions) log) (text ++ texts_in (take i actions)) → AreDone T H (take (i + 1) actions) log text
  done_next d =
      subst (λ (t : List Action). AreDone T H t log text) (ap (λ (b : Action). take i actions ++ b ∷ []) is ∙ sym (take_more actions i a less))
      (done_more T H (take i actions) a log text d)

  pub cut_next : AreCut T H (a ∷ []) (carried (take i actions) log) (text ++ texts_in (take i actions)) → AreCut T H actions log text
  cut_next c =
      let left = drop (i + 1) actions in
      subst (λ (t : List Action). AreCut T H t log text)
      (sym (append_assoc (take i actions) (a ∷ []) left) ∙ ap (λ (b : Action). (take i actions ++ b ∷ []) ++ left) is
      ∙ ap (λ (t : List Action). t ++ left) (sym (take_more actions i a less)) ∙ take-append-drop (i + 1) actions)
      (cut_more T H (take i actions) a log text left c)

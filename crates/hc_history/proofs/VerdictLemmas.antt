-- Octets have one verdict, and one that stands stays.
use Rattle.std.proofs.Common.{◌≡◌, ◌≢◌, ℕ, List, [], ◌∷◌, ◌++◌, Option, Some, None, sym, ap, ◌∙◌, subst, arith, ◌⊎◌, inl, inr}
use Rattle.hc_head.specs.declared.head.ResponseHead.{ResponseHead}
use Rattle.hc_framing.specs.declared.message.Message.{Message}
use Rattle.hc_transcript.specs.declared.fault.RecordFault.{RecordFault}
use Rattle.hc_transcript.specs.declared.fault.RecordFault.TheVariants as fault
use Rattle.hc_transcript.specs.declared.format.Format.{Format}
use Rattle.hc_transcript.specs.declared.record.Record.{Record}
use Rattle.hc_transcript.specs.Items.{Item, ClientReply, Exchange}
use Rattle.hc_transcript.specs.History.{next_position, exchange_of, last_moment, last_exchange, last_forward}
use Rattle.hc_transcript.specs.Checks.{line_fault}
use Rattle.hc_transcript.specs.Malformed.{IsUnfinished, BreaksOpening, IsMalformedAfter}
use Rattle.hc_transcript.specs.Transcript.{Splits, IsTranscript}
use Rattle.hc_transcript.proofs.CheckLemmas.{no_memory_check}
use Rattle.hc_transcript.proofs.OnceLemmas.{splits_more, one_opening, same_format, front, one as one_reading, one_break, break_last, broken_is_no_transcript, one_unfinished, unfinished_last, unfinished_is_no_transcript, unfinished_is_unbroken, no_opening_no_records, no_opening_is_hopeless, unfinished_opening_no_records, broken_more, no_opening_more}
use Rattle.hc_history.specs.declared.reasons.Reason.{Reason}
use Rattle.hc_history.specs.declared.settings.Settings.{Settings}
use Rattle.hc_history.specs.declared.verdicts.Counts.{Counts}
use Rattle.hc_history.specs.declared.verdicts.Verdict.{Verdict}
use Rattle.hc_history.specs.declared.verdicts.Verdict.TheVariants.{Yes, No, Malformed}
use Rattle.hc_history.specs.Counting.{counts_of}
use Rattle.hc_history.specs.Marks.{mark_to}
use Rattle.hc_history.specs.Claims.{claim_of}
use Rattle.hc_history.specs.Right.{IsRightTo, IsWrongTo, IsRight, IsWrong, AllRight}
use Rattle.hc_history.specs.Verdicts.{IsAllRight, IsWrongAt, IsMalformedAt, IsVerdict}
use Rattle.hc_history.proofs.ReasonLemmas.{not_both, one_reason}

-- ---- right and wrong replies

right_to_wrong : (format : Format) (settings : Settings) (o : Option Exchange) (moment : ℕ) (reply : Message ResponseHead) (h : List Item) (why : Reason)
    → IsRightTo format settings o moment reply h → ¬ (IsWrongTo format settings o moment reply h why)
right_to_wrong format settings None moment reply h why right wrong = right
right_to_wrong format settings (Some exchange) moment reply h why right wrong =
    not_both (mark_to format settings (Some exchange) reply h) (claim_of format settings exchange moment reply h) h why right wrong

pub right_wrong : (format : Format) (settings : Settings) (h : List Item) (item : Item) (why : Reason) → IsRight format settings h item → ¬ (IsWrong format settings h item why)
right_wrong format settings h (ClientReply number moment reply) why right wrong = right_to_wrong format settings (exchange_of number h) moment reply h why right wrong
right_wrong format settings h item why right wrong = wrong

wrong_to_once : (format : Format) (settings : Settings) (o : Option Exchange) (moment : ℕ) (reply : Message ResponseHead) (h : List Item) (why other : Reason)
    → IsWrongTo format settings o moment reply h why → IsWrongTo format settings o moment reply h other → why ≡ other
wrong_to_once format settings None moment reply h why other one two = absurd one
wrong_to_once format settings (Some exchange) moment reply h why other one two =
    one_reason (mark_to format settings (Some exchange) reply h) (claim_of format settings exchange moment reply h) h why other one two

pub wrong_once : (format : Format) (settings : Settings) (h : List Item) (item : Item) (why other : Reason) → IsWrong format settings h item why → IsWrong format settings h item other → why ≡ other
wrong_once format settings h (ClientReply number moment reply) why other one two = wrong_to_once format settings (exchange_of number h) moment reply h why other one two
wrong_once format settings h item why other one two = absurd one

-- where every reply is right, so is the first of any front
right_within : (format : Format) (settings : Settings) (items : List Item) (item : Item) (h : List Item) → AllRight format settings (items ++ item ∷ h) → IsRight format settings h item
right_within format settings [] item h all = all.1
right_within format settings (i ∷ items) item h all = right_within format settings items item h all.0

-- no wrong reply stands in a history of right ones
never_within : (format : Format) (settings : Settings) (h items g : List Item) (item : Item) (why : Reason) → AllRight format settings h → h ≡ items ++ item ∷ g → ¬ (IsWrong format settings g item why)
never_within format settings h items g item why all is wrong =
    right_wrong format settings g item why (right_within format settings items item g (subst (AllRight format settings) is all)) wrong

-- ---- where the octets stop

pub nothing_unfinished : (format : Format) (h : List Item) → IsUnfinished format (line_fault h) []
nothing_unfinished format h = inl (record { short = omega arith; none = λ text begins. no_line text begins.after begins.octets_are })
  where
    no_line : (text after : List ℕ) → [] ≡ text ++ 10 ∷ after → ⊥
    no_line [] after is = cc
    no_line (c ∷ text) after is = cc

-- what the octets break behind is the last history that is read of them
pub last_read : (format other : Format) (octets : List ℕ) (h : List Item) (f : RecordFault) (records : List Record) (g : List Item) (rest : List ℕ)
    → IsMalformedAfter format octets h f → Splits other octets records g rest → (items : List Item) × (h ≡ items ++ g)
last_read format other octets h f records g rest (inl broken) splits = break_last format other octets h f records g rest broken splits
last_read format other octets h f records g rest (inr torn) splits =
    unfinished_last format other octets torn.1.records records h g torn.1.rest rest torn.1.splits torn.1.torn splits

pub break_read : (format : Format) (octets : List ℕ) (h : List Item) (f : RecordFault) → IsMalformedAfter format octets h f → (records : List Record) × (rest : List ℕ) × Splits format octets records h rest
break_read format octets h f (inl broken) = (broken.records, broken.rest, broken.splits)
break_read format octets h f (inr torn) = (torn.1.records, torn.1.rest, torn.1.splits)

pub opening_unread : (octets : List ℕ) (f : RecordFault) (format : Format) (records : List Record) (h : List Item) (rest : List ℕ) → BreaksOpening octets f → ¬ (Splits format octets records h rest)
opening_unread octets f format records h rest (inl none) splits = no_opening_no_records octets format records h rest none.0 splits
opening_unread octets f format records h rest (inr short) splits = unfinished_opening_no_records format octets records h rest short.0 splits

pub one_opening_fault : (octets : List ℕ) (f e : RecordFault) → BreaksOpening octets f → BreaksOpening octets e → f ≡ e
one_opening_fault octets f e (inl none) (inl other) = none.1 ∙ sym other.1
one_opening_fault octets f e (inl none) (inr short) = absurd (no_opening_is_hopeless octets none.0 short.0)
one_opening_fault octets f e (inr short) (inl none) = absurd (no_opening_is_hopeless octets none.0 short.0)
one_opening_fault octets f e (inr short) (inr other) = short.1 ∙ sym other.1

pub one_break_behind : (format other : Format) (octets : List ℕ) (h g : List Item) (f e : RecordFault) → IsMalformedAfter format octets h f → IsMalformedAfter other octets g e → (h ≡ g) × (f ≡ e)
one_break_behind format other octets h g f e (inl one) (inl two) = let same = one_break format other octets h g f e one two in (same.1, same.2)
one_break_behind format other octets h g f e (inl one) (inr torn) =
    absurd (unfinished_is_unbroken other format octets torn.1.records g h torn.1.rest f torn.1.splits torn.1.torn one)
one_break_behind format other octets h g f e (inr torn) (inl two) =
    absurd (unfinished_is_unbroken format other octets torn.1.records h g torn.1.rest e torn.1.splits torn.1.torn two)
one_break_behind format other octets h g f e (inr torn) (inr two) =
    let same = one_unfinished format other octets torn.1.records two.1.records h g torn.1.rest two.1.rest torn.1.splits torn.1.torn two.1.splits two.1.torn in
    (same.1, torn.0 ∙ sym two.0)

pub behind_is_no_transcript : (format other : Format) (octets : List ℕ) (h : List Item) (f : RecordFault) (records : List Record) (g : List Item) → IsMalformedAfter format octets h f
    → ¬ (IsTranscript other octets records g)
behind_is_no_transcript format other octets h f records g (inl broken) whole = broken_is_no_transcript format other octets h f records g broken whole
behind_is_no_transcript format other octets h f records g (inr torn) whole =
    unfinished_is_no_transcript format other octets torn.1.records records h g torn.1.rest torn.1.splits torn.1.some torn.1.torn whole

-- ---- one verdict

same_counts : (octets : List ℕ) (settings : Settings) (one other : Counts) → IsAllRight octets settings one → IsAllRight octets settings other → Yes one ≡ Yes other
same_counts octets settings one other y z =
    let whole = same_format octets y.format z.format y.records z.records y.history z.history [] [] y.is_transcript z.is_transcript in
    let same = one_reading y.format octets y.records z.records y.history z.history y.is_transcript whole in
    let same-format = one_opening octets z.format y.format z.records y.records z.history y.history [] [] z.is_transcript y.is_transcript in
    ap Yes (y.counts_are ∙ ap (counts_of y.format settings) same.1 ∙ ap (λ (k : Format). counts_of k settings z.history) (sym same-format) ∙ sym z.counts_are)

-- what is wrong in the one format of the octets
wrong_in : (settings : Settings) (h : List Item) (item : Item) (why : Reason) (format other : Format) → other ≡ format → IsWrong other settings h item why → IsWrong format settings h item why
wrong_in settings h item why format other same wrong = subst (λ (k : Format). IsWrong k settings h item why) same wrong

yes_no : (octets : List ℕ) (settings : Settings) (counts : Counts) (position : ℕ) (why : Reason) → IsAllRight octets settings counts → ¬ (IsWrongAt octets settings position why)
yes_no octets settings counts position why y n =
    let same-format = one_opening octets n.format y.format n.records y.records (n.item ∷ n.history) y.history n.rest [] n.splits y.is_transcript in
    let last =
    unfinished_last y.format n.format octets y.records n.records y.history (n.item ∷ n.history) [] n.rest y.is_transcript (nothing_unfinished y.format y.history) n.splits in
    never_within y.format settings y.history last.0 n.history n.item why y.all_right last.1 (wrong_in settings n.history n.item why y.format n.format same-format n.is_wrong)

break_no : (octets : List ℕ) (settings : Settings) (at position : ℕ) (f : RecordFault) (why : Reason) → IsMalformedAt octets settings at f → ¬ (IsWrongAt octets settings position why)
break_no octets settings at position f why b n =
    let read = break_read b.format octets b.history f b.breaks in
    let same-format = one_opening octets n.format b.format n.records read.0 (n.item ∷ n.history) b.history n.rest read.1 n.splits read.2 in
    let last = last_read b.format n.format octets b.history f n.records (n.item ∷ n.history) n.rest b.breaks n.splits in
    never_within b.format settings b.history last.0 n.history n.item why b.all_right last.1 (wrong_in settings n.history n.item why b.format n.format same-format n.is_wrong)

-- of two wrong replies behind right ones neither is later
no_later : (format : Format) (settings : Settings) (items h g : List Item) (item other : Item) (why : Reason) → AllRight format settings g → IsWrong format settings h item why
    → other ∷ g ≡ items ++ item ∷ h → (other ≡ item) × (g ≡ h)
no_later format settings [] h g item other why all wrong is = (cc, cc)
no_later format settings (i ∷ items) h g item other why all wrong is =
    absurd (let tail : g ≡ items ++ item ∷ h = cc in never_within format settings g items h item why all tail wrong)

stop_parts : (format : Format) (settings : Settings) (position at : ℕ) (why other : Reason) (item later : Item) (h g : List Item) → IsWrong format settings h item why
    → IsWrong format settings g later other → position ≡ next_position h → at ≡ next_position g → item ≡ later → h ≡ g → No position why ≡ No at other
stop_parts format settings position at why other item later h g wrong too position-is at-is same before =
    let here = subst (λ (i : Item). IsWrong format settings h i why) same wrong in
    let there = subst (λ (k : List Item). IsWrong format settings k later why) before here in
    ap (λ (p : ℕ). No p why) (position-is ∙ ap next_position before ∙ sym at-is) ∙ ap (No at) (wrong_once format settings g later why other there too)

no_no : (octets : List ℕ) (settings : Settings) (position at : ℕ) (why other : Reason) → IsWrongAt octets settings position why → IsWrongAt octets settings at other → No position why ≡ No at other
no_no octets settings position at why other n m =
    let same-format = one_opening octets m.format n.format m.records n.records (m.item ∷ m.history) (n.item ∷ n.history) m.rest n.rest m.splits n.splits in
    let splits = same_format octets n.format m.format n.records m.records (n.item ∷ n.history) (m.item ∷ m.history) n.rest m.rest n.splits m.splits in
    let right : AllRight n.format settings m.history = subst (λ (k : Format). AllRight k settings m.history) same-format m.all_right in
    let wrong = wrong_in settings m.history m.item other n.format m.format same-format m.is_wrong in
    elim (front n.format octets n.records m.records (n.item ∷ n.history) (m.item ∷ m.history) n.rest m.rest n.splits splits) [
      | inl goes ↦
          let same = no_later n.format settings goes.items n.history m.history n.item m.item why right n.is_wrong goes.items_are in
          stop_parts n.format settings position at why other n.item m.item n.history m.history n.is_wrong wrong n.position_is m.position_is (sym same.0) (sym same.1)
      | inr goes ↦
          let same = no_later n.format settings goes.items m.history n.history m.item n.item other n.all_right wrong goes.items_are in
          stop_parts n.format settings position at why other n.item m.item n.history m.history n.is_wrong wrong n.position_is m.position_is same.0 same.1
    ]

break_break : (octets : List ℕ) (settings : Settings) (position at : ℕ) (f e : RecordFault)
    → (((position ≡ 0) × BreaksOpening octets f) ⊎ IsMalformedAt octets settings position f)
    → (((at ≡ 0) × BreaksOpening octets e) ⊎ IsMalformedAt octets settings at e) → Malformed position f ≡ Malformed at e
break_break octets settings position at f e (inl one) (inl other) =
    ap (λ (p : ℕ). Malformed p f) (one.0 ∙ sym other.0) ∙ ap (Malformed at) (one_opening_fault octets f e one.1 other.1)
break_break octets settings position at f e (inl one) (inr b) =
    let read = break_read b.format octets b.history e b.breaks in
    absurd (opening_unread octets f b.format read.0 b.history read.1 one.1 read.2)
break_break octets settings position at f e (inr b) (inl other) =
    let read = break_read b.format octets b.history f b.breaks in
    absurd (opening_unread octets e b.format read.0 b.history read.1 other.1 read.2)
break_break octets settings position at f e (inr b) (inr c) =
    let same = one_break_behind b.format c.format octets b.history c.history f e b.breaks c.breaks in
    ap (λ (p : ℕ). Malformed p f) (b.position_is ∙ ap next_position same.0 ∙ sym c.position_is) ∙ ap (Malformed at) same.1

yes_break : (octets : List ℕ) (settings : Settings) (counts : Counts) (position : ℕ) (f : RecordFault) → IsAllRight octets settings counts
    → (((position ≡ 0) × BreaksOpening octets f) ⊎ IsMalformedAt octets settings position f) → ⊥
yes_break octets settings counts position f y (inl one) = opening_unread octets f y.format y.records y.history [] one.1 y.is_transcript
yes_break octets settings counts position f y (inr b) = behind_is_no_transcript b.format y.format octets b.history f y.records y.history b.breaks y.is_transcript

no_break : (octets : List ℕ) (settings : Settings) (at position : ℕ) (why : Reason) (f : RecordFault) → IsWrongAt octets settings at why
    → (((position ≡ 0) × BreaksOpening octets f) ⊎ IsMalformedAt octets settings position f) → ⊥
no_break octets settings at position why f n (inl one) = opening_unread octets f n.format n.records (n.item ∷ n.history) n.rest one.1 n.splits
no_break octets settings at position why f n (inr b) = break_no octets settings position at f why b n

pub one_verdict : (octets : List ℕ) (settings : Settings) (one other : Verdict) → IsVerdict octets settings one → IsVerdict octets settings other → one ≡ other
one_verdict octets settings (Yes c) (Yes d) y z = same_counts octets settings c d y z
one_verdict octets settings (Yes c) (No p why) y n = absurd (yes_no octets settings c p why y n)
one_verdict octets settings (Yes c) (Malformed p f) y b = absurd (yes_break octets settings c p f y b)
one_verdict octets settings (No p why) (Yes c) n y = absurd (yes_no octets settings c p why y n)
one_verdict octets settings (No p why) (No q other) n m = no_no octets settings p q why other n m
one_verdict octets settings (No p why) (Malformed q f) n b = absurd (no_break octets settings p q why f n b)
one_verdict octets settings (Malformed p f) (Yes c) b y = absurd (yes_break octets settings c p f y b)
one_verdict octets settings (Malformed p f) (No q why) b n = absurd (no_break octets settings q p why f n b)
one_verdict octets settings (Malformed p f) (Malformed q e) b c = break_break octets settings p q f e b c

-- ---- a verdict that stands

pub no_stays : (octets more : List ℕ) (settings : Settings) (position : ℕ) (why : Reason) → IsVerdict octets settings (No position why) → IsVerdict (octets ++ more) settings (No position why)
no_stays octets more settings position why n = record {
  format = n.format;
  records = n.records;
  history = n.history;
  item = n.item;
  rest = n.rest ++ more;
  splits = splits_more n.format octets more n.records (n.item ∷ n.history) n.rest n.splits;
  all_right = n.all_right;
  is_wrong = n.is_wrong;
  position_is = n.position_is;
}

behind_stays : (format : Format) (octets more : List ℕ) (h : List Item) (f : RecordFault) → f ≢ fault.Torn → IsMalformedAfter format octets h f → IsMalformedAfter format (octets ++ more) h f
behind_stays format octets more h f whole (inl broken) = inl (broken_more format octets more h f broken)
behind_stays format octets more h f whole (inr torn) = absurd (whole torn.0)

pub malformed_stays : (octets more : List ℕ) (settings : Settings) (position : ℕ) (f : RecordFault) → f ≢ fault.Torn
    → IsVerdict octets settings (Malformed position f) → IsVerdict (octets ++ more) settings (Malformed position f)
malformed_stays octets more settings position f whole (inl (at, inl none)) = inl (at, inl (no_opening_more octets more none.0, none.1))
malformed_stays octets more settings position f whole (inl (at, inr short)) = absurd (whole short.1)
malformed_stays octets more settings position f whole (inr b) = inr (record {
  format = b.format;
  history = b.history;
  all_right = b.all_right;
  breaks = behind_stays b.format octets more b.history f whole b.breaks;
  position_is = b.position_is;
})

-- ---- no octets are malformed by want of memory

no_memory_opening : (octets : List ℕ) → ¬ (BreaksOpening octets fault.Memory)
no_memory_opening octets (inl none) = let other : fault.Memory ≡ fault.Opening = none.1 in cc
no_memory_opening octets (inr short) = let other : fault.Memory ≡ fault.Torn = short.1 in cc

no_memory_behind : (format : Format) (octets : List ℕ) (h : List Item) → ¬ (IsMalformedAfter format octets h fault.Memory)
no_memory_behind format octets h (inl broken) =
    no_memory_check broken.breaks.line (last_moment h) (last_exchange h) (last_forward h) _ _ _ broken.breaks.fails
no_memory_behind format octets h (inr torn) = let other : fault.Memory ≡ fault.Torn = torn.0 in cc

pub no_memory : (octets : List ℕ) (settings : Settings) (position : ℕ) → ¬ (IsVerdict octets settings (Malformed position fault.Memory))
no_memory octets settings position (inl opening) = no_memory_opening octets opening.1
no_memory octets settings position (inr b) = no_memory_behind b.format octets b.history b.breaks

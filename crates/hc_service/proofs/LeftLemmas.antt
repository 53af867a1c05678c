-- Who waits, waits for a forward that is open.
use Rattle.std.proofs.Common.{◌≡◌, ℕ, Bool, true, false, cond, List, [], ◌∷◌, ◌++◌, map, Option, Some, None, Ok, Err, refl, sym, ap, ◌∙◌, subst, inl, inr, ⊎_elim, ◌⊎◌}
use Rattle.std.specs.FinMap.{entries, get, insert, remove, get-entries}
use Rattle.std.specs.FinMap.Entries.{find}
use Rattle.std.specs.List.{AllByRecursion, filter}
use Rattle.std.specs.Option.{IsSome}
use Rattle.std.specs.Ordering.{nat_cmp, eq_by_cmp}
use Rattle.std.proofs.lemmas.Bool.{cases_eq, eq-eqb}
use Rattle.std.proofs.lemmas.Map.Lookups.{exact_unsigned}
use Rattle.hc_update.specs.declared.stored.Stored.{Stored}
use Rattle.hc_store.specs.Entries.{Holdings}
use Rattle.hc_service.specs.declared.event.Event.{Event}
use Rattle.hc_service.specs.declared.event.Happening.{Happening}
use Rattle.hc_service.specs.declared.event.Happening.TheVariants.{ClientOpened, ClientBytes, ClientEnd, OriginBytes, OriginEnd, OriginFailed, Stopping as ToStop}
use Rattle.hc_service.specs.declared.action.Action.{Action}
use Rattle.hc_service.specs.declared.cases.Cause.{Cause}
use Rattle.hc_service.specs.declared.cases.Cause.TheVariants.{UriMiss}
use Rattle.hc_service.specs.declared.fault.StepFault.TheVariants.{Memory, MomentTooLarge, UnknownNumber, TooManyConnections, Failed}
use Rattle.hc_service.specs.declared.open.ForwardKind.TheVariants.{Joinable, Plain}
use Rattle.hc_service.specs.declared.open.OpenExchange.{OpenExchange}
use Rattle.hc_service.specs.declared.open.Purpose.{Purpose}
use Rattle.hc_service.specs.declared.open.Purpose.TheVariants as purpose
use Rattle.hc_service.specs.declared.settings.CoreSettings.{CoreSettings}
use Rattle.hc_service.specs.declared.settings.CoreOptions.{CoreOptions}
use Rattle.hc_service.specs.Cases.{Case, case_before_store}
use Rattle.hc_service.specs.Cases.Case.{Hit, Forward}
use Rattle.hc_service.specs.Numbers.{one_more}
use Rattle.hc_service.specs.State.{State, Table, Awaited, OpenNow, new_state_with, open_now}
use Rattle.hc_service.specs.Joining.{IsLeast, MayJoin, WaitForOpen, shared, waiting_for, waits_for}
use Rattle.hc_service.specs.Reactions.{Reaction, ReactsBy, ReactsJoined, Reacts, WholeRequest, chosen_reaction, forward_alone, forward_anew, forward_reaction, is_asked_after, stored_forward, would_wait, wants_no_forward}
use Rattle.hc_service.specs.Reactions.Reaction.{Replies as RepliesAtOnce, Sends, Waits}
use Rattle.hc_service.specs.Runs.{StepResult, Steps}
use Rattle.hc_service.specs.Answers.{Outcome}
use Rattle.hc_service.specs.Answers.Outcome.{Replies, GoesAnew}
use Rattle.hc_service.specs.Turns.{Answers, Asker, Asks, Breaks, DoesOutcome, DoesReaction, DoesRelease, Ended, EndsByFailure, EndsByResponse, Failure, OriginSends, Releases, after_origin_octets, answered_now, arrived_on, asker_now, failed_now, opened, released, sent_forward, whole_request}
use Rattle.hc_service.specs.Turns.Failure.{IsBroken, IsCutOff, IsLost}
use Rattle.hc_service.specs.Serves.{Turn, Takes, Run, Reads, ReadsOnAll, OwesAnswer, OwesEnd, OwesReply, Owes, Serves, clients_of, passed_to}
use Rattle.hc_service.specs.Serves.Turn.{Opening, ClientSending, Asking, Refusal, Dropping, Leaving, Closing, OriginSending, Answering, Failing, Releasing, Stopping}
use Rattle.hc_service.proofs.LinkLemmas.{none_some, one_of}
use Rattle.hc_service.proofs.QuietLemmas.{IsAmong, run_split}
use Rattle.hc_service.proofs.TableLemmas.{equal_of, get_left, get_none, get_other, get_same, was_left, was_put}

-- ---- the numbers of a table at which something passes

module _ {X : Type 0} (pass : X → Bool) where
  abbrev numbers_where : List (ℕ × X) → List ℕ
  numbers_where es = map (λ e. e.0) (filter (λ e. pass e.1) es)

  -- one at which it passes is one of them
  found_among : (n : ℕ) (es : List (ℕ × X)) (x : X) → find nat_cmp n es ≡ Some x → pass x ≡ true → IsAmong n (numbers_where es)
  found_among n [] x is passes = absurd (none_some None x refl is)
  found_among n (e ∷ es) x is passes = by (eq_by_cmp nat_cmp n e.0) (pass e.1) refl refl is (λ there. found_among n es x there passes)
    where
      true_false : true ≡ false → ⊥
      true_false e = cc

      by : (b c : Bool) → eq_by_cmp nat_cmp n e.0 ≡ b → pass e.1 ≡ c → cond b (Some e.1) (find nat_cmp n es) ≡ Some x
          → (find nat_cmp n es ≡ Some x → IsAmong n (numbers_where es))
          → IsAmong n (map (λ e. e.0) (cond c (e ∷ filter (λ e. pass e.1) es) (filter (λ e. pass e.1) es)))
      by true true tied its there rest = inl (sym (exact_unsigned n e.0 (equal_of (nat_cmp n e.0) tied)))
      by true false tied its there rest = absurd (true_false (sym passes ∙ ap pass (one_of (Some e.1) x e.1 there refl) ∙ its))
      by false true apart its there rest = inr (rest there)
      by false false apart its there rest = rest there

-- who waits for a forward is one of those that do
pub waits_among : (f e : ℕ) (x : OpenExchange) (t : Table OpenExchange) → get t e ≡ Some x → x.waits_for ≡ Some f → IsAmong e (waiting_for f t)
waits_among f e x t is waits =
    found_among (λ (x : OpenExchange). waits_for f x.waits_for) e (entries t) x (sym (get-entries t e) ∙ is) (ap (waits_for f) waits ∙ eq-eqb f f refl)

-- ---- whoever joins a forward, joins one that is open and has a place

-- the forward for which a request waits by that reaction
abbrev joined_by : Reaction → Option ℕ
joined_by (RepliesAtOnce reply more) = None
joined_by (Sends request why kind) = None
joined_by (Waits f) = Some f

module _ (whole : WholeRequest) (forwards : Table Awaited) where
  no_test : (b : Bool) (r q : Reaction) → joined_by r ≡ None → joined_by q ≡ None → joined_by (cond b r q) ≡ None
  no_test true r q one other = one
  no_test false r q one other = other

  no_stored : (chosen : Option Stored) (why : Cause) → joined_by (stored_forward whole.wanted whole.target whole.request why chosen) ≡ None
  no_stored None why = refl
  no_stored (Some stored) why = no_test (is_asked_after whole.request.head (Some stored)) _ _ refl refl

  no_forward : (chosen : Option Stored) (why : Cause) → joined_by (forward_reaction whole.wanted whole.target whole.request chosen why) ≡ None
  no_forward chosen why = no_test (wants_no_forward why whole.request.head) _ _ refl (no_stored chosen why)

  no_chosen : (chosen : Option Stored) (c : Case) → joined_by (chosen_reaction whole.wanted whole.target whole.request forwards chosen c) ≡ None
  no_chosen chosen (Hit stored) = refl
  no_chosen chosen (Forward why) = no_forward chosen why

pub joins_it : (whole : WholeRequest) (underway : OpenNow) (old new : Holdings) (reaction : Reaction) (f : ℕ) → Reacts whole underway old reaction new → reaction ≡ Waits f
    → MayJoin whole.target underway f
joins_it whole underway old new reaction f reacts is = by_case (case_before_store whole.request) reacts
  where
    by_least : (b : Bool) (least : Option ℕ) → IsLeast whole.target underway least → ReactsJoined (cond b least None) whole underway.forwards old reaction new
        → MayJoin whole.target underway f
    by_least true (Some g) its r = subst (MayJoin whole.target underway) (one_of (Some g) g f refl (sym (ap joined_by r.0) ∙ ap joined_by is)) its.0
    by_least true None its r =
        absurd (none_some (joined_by reaction) f (ap joined_by r.reaction_is ∙ no_chosen whole underway.forwards r.chosen _) (ap joined_by is))
    by_least false least its r =
        absurd (none_some (joined_by reaction) f (ap joined_by r.reaction_is ∙ no_chosen whole underway.forwards r.chosen _) (ap joined_by is))

    by_case : (o : Option Cause) → ReactsBy o whole underway old reaction new → MayJoin whole.target underway f
    by_case (Some why) r = absurd (none_some (joined_by reaction) f (ap joined_by r.0 ∙ no_forward whole underway.forwards None why) (ap joined_by is))
    by_case None r = by_least (would_wait whole old) r.least r.is_least r.reacts

-- ---- what turns do to those that wait

-- who waits then has joined a forward that is open, or waited before
abbrev WaitOn : State → State → Type 0
WaitOn s s' = (e f : ℕ) (x : OpenExchange) → get s'.exchanges e ≡ Some x → x.waits_for ≡ Some f → IsSome (get s'.forwards f) ⊎ (get s.exchanges e ≡ Some x)

-- no forward ends
abbrev NoneEnds : State → State → Type 0
NoneEnds s s' = (f : ℕ) → IsSome (get s.forwards f) → IsSome (get s'.forwards f)

-- none but that
abbrev NoOtherEnds : ℕ → State → State → Type 0
NoOtherEnds f s s' = (g : ℕ) → (f ≡ g → ⊥) → IsSome (get s.forwards g) → IsSome (get s'.forwards g)

same_there : {X : Type 0} (t u : Table X) (n : ℕ) → u ≡ t → get u n ≡ get t n
same_there {X = X} t u n same = ap (λ (t : Table X). get t n) same

module _ (s s' : State) where
  wait_same : s'.exchanges ≡ s.exchanges → WaitOn s s'
  wait_same same e f x is waits = inr (sym (same_there s.exchanges s'.exchanges e same) ∙ is)

  -- one opens, or is released, which waits for nobody
  wait_alone : (n : ℕ) (y : OpenExchange) → s'.exchanges ≡ insert s.exchanges n y → y.waits_for ≡ None → WaitOn s s'
  wait_alone n y same alone e f x is waits =
      ⊎_elim
      (λ (p : (n ≡ e) × (y ≡ x)). absurd (none_some y.waits_for f alone (ap (λ (z : OpenExchange). z.waits_for) p.1 ∙ waits)))
      (λ (p : (n ≡ e → ⊥) × (get s.exchanges e ≡ Some x)). inr p.1)
      (was_put s.exchanges n y e x (sym (same_there (insert s.exchanges n y) s'.exchanges e same) ∙ is))

  -- one opens that waits for a forward that is open
  wait_joined : (n g : ℕ) (y : OpenExchange) → s'.exchanges ≡ insert s.exchanges n y → y.waits_for ≡ Some g → IsSome (get s'.forwards g) → WaitOn s s'
  wait_joined n g y same joins there e f x is waits =
      ⊎_elim
      (λ (p : (n ≡ e) × (y ≡ x)).
      inl (subst (λ (h : ℕ). IsSome (get s'.forwards h)) (one_of y.waits_for g f joins (ap (λ (z : OpenExchange). z.waits_for) p.1 ∙ waits)) there))
      (λ (p : (n ≡ e → ⊥) × (get s.exchanges e ≡ Some x)). inr p.1)
      (was_put s.exchanges n y e x (sym (same_there (insert s.exchanges n y) s'.exchanges e same) ∙ is))

  wait_less : (n : ℕ) → s'.exchanges ≡ remove s.exchanges n → WaitOn s s'
  wait_less n same e f x is waits = inr (was_left s.exchanges n e x (sym (same_there (remove s.exchanges n) s'.exchanges e same) ∙ is)).1

  none_same : s'.forwards ≡ s.forwards → NoneEnds s s'
  none_same same f is = subst IsSome (sym (same_there s.forwards s'.forwards f same)) is

-- where a forward is put, each that was open is open
open_put : (t : Table Awaited) (n : ℕ) (a : Awaited) (f : ℕ) → IsSome (get t f) → IsSome (get (insert t n a) f)
open_put t n a f is =
    ⊎_elim
    (λ (same : n ≡ f). subst IsSome (sym (ap (get (insert t n a)) (sym same) ∙ get_same t n a)) refl)
    (λ (other : n ≡ f → ⊥). subst IsSome (sym (get_other t n a f other)) is)
    (cases_eq n f)

open_left : (t : Table Awaited) (n f : ℕ) → (n ≡ f → ⊥) → IsSome (get t f) → IsSome (get (remove t n) f)
open_left t n f other is = subst IsSome (sym (get_left t n f other)) is

module _ (s s' : State) where
  none_put : (n : ℕ) (a : Awaited) → s'.forwards ≡ insert s.forwards n a → NoneEnds s s'
  none_put n a same f is = subst IsSome (sym (same_there (insert s.forwards n a) s'.forwards f same)) (open_put s.forwards n a f is)

  no_other_left : (n : ℕ) → s'.forwards ≡ remove s.forwards n → NoOtherEnds n s s'
  no_other_left n same f other is = subst IsSome (sym (same_there (remove s.forwards n) s'.forwards f same)) (open_left s.forwards n f other is)

  no_other_sent : (n m : ℕ) (a : Awaited) → s'.forwards ≡ insert (remove s.forwards n) m a → NoOtherEnds n s s'
  no_other_sent n m a same f other is =
      subst IsSome (sym (same_there (insert (remove s.forwards n) m a) s'.forwards f same)) (open_put (remove s.forwards n) m a f (open_left s.forwards n f other is))

  -- who waits, waits on for what is open
  waits_on : WaitOn s s' → NoneEnds s s' → WaitForOpen s → WaitForOpen s'
  waits_on on ends waits e f x is its =
      ⊎_elim (λ (there : IsSome (get s'.forwards f)). there) (λ (was : get s.exchanges e ≡ Some x). ends f (waits e f x was its)) (on e f x is its)

-- ---- a whole request

asking_waits : (settings : CoreSettings) (c : ℕ) (s : State) (actions : List Action) (s' : State) → Asks settings c s actions s' → WaitOn s s' × NoneEnds s s'
asking_waits settings c s actions s' t = by_reaction t.reaction refl t.does
  where
    by_reaction : (r : Reaction) → t.reaction ≡ r → DoesReaction r (arrived_on c t.connection t.size (whole_request settings s t.request t.target t.connection)) s actions s'
        → WaitOn s s' × NoneEnds s s'
    by_reaction (RepliesAtOnce reply None) is d = (wait_same s s' d.keeps.exchanges, none_same s s' d.keeps.forwards)
    by_reaction (RepliesAtOnce reply (Some validation)) is d = (
      wait_same s s' d.exchanges,
      none_put s s' (one_more s.numbers.forward) (sent_forward validation.head t.target s.numbers.moment purpose.Background) d.forwards,
    )
    by_reaction (Sends forward why kind) is d = (
      wait_alone s s' (one_more s.numbers.exchange) (opened (arrived_on c t.connection t.size (whole_request settings s t.request t.target t.connection)) None) d.exchanges refl,
      none_put s s' (one_more s.numbers.forward) (sent_forward forward.head t.target s.numbers.moment (purpose.Reply (one_more s.numbers.exchange) why kind)) d.forwards,
    )
    by_reaction (Waits f) is d =
        let may = joins_it (whole_request settings s t.request t.target t.connection) (open_now s) s.store s'.store t.reaction f t.reacts is in (
          wait_joined s s' (one_more s.numbers.exchange) f (opened (arrived_on c t.connection t.size (whole_request settings s t.request t.target t.connection)) (Some f)) d.exchanges refl
              (subst IsSome (sym (same_there s.forwards s'.forwards f d.forwards ∙ may.is_open)) refl),
          none_same s s' d.forwards,
        )

reading_waits : (settings : CoreSettings) (c : ℕ) (turn : Turn) (s : State) (actions : List Action) (s' : State) → Reads c turn → Takes settings turn s actions s' → WaitForOpen s → WaitForOpen s'
reading_waits settings c (Asking d) s actions s' is t waits = let keeps = asking_waits settings d s actions s' t in waits_on s s' keeps.0 keeps.1 waits
reading_waits settings c (Refusal d status) s actions s' is t waits = waits_on s s' (wait_same s s' t.keeps.exchanges) (none_same s s' t.keeps.forwards) waits
reading_waits settings c (Dropping d) s actions s' is t waits = waits_on s s' (wait_same s s' t.keeps.exchanges) (none_same s s' t.keeps.forwards) waits
reading_waits settings c (Opening d) s actions s' is t waits = absurd is
reading_waits settings c (ClientSending d octets) s actions s' is t waits = absurd is
reading_waits settings c (Leaving d) s actions s' is t waits = absurd is
reading_waits settings c (Closing d) s actions s' is t waits = absurd is
reading_waits settings c (OriginSending f octets) s actions s' is t waits = absurd is
reading_waits settings c (Answering f ended) s actions s' is t waits = absurd is
reading_waits settings c (Failing f how) s actions s' is t waits = absurd is
reading_waits settings c (Releasing e) s actions s' is t waits = absurd is
reading_waits settings c Stopping s actions s' is t waits = absurd is

readings_wait : (settings : CoreSettings) (c : ℕ) (turns : List Turn) (s : State) (actions : List Action) (s' : State) → AllByRecursion (Reads c) turns → Run settings turns s actions s'
    → WaitForOpen s → WaitForOpen s'
readings_wait settings c [] s actions s' reads r waits = subst WaitForOpen (sym r.1) waits
readings_wait settings c (turn ∷ turns) s actions s' reads r waits =
    readings_wait settings c turns r.0 r.2 s' reads.1 r.5 (reading_waits settings c turn s r.1 r.0 reads.0 r.3 waits)

clients_wait : (settings : CoreSettings) (clients : List ℕ) (turns : List Turn) (s : State) (actions : List Action) (s' last : State) → ReadsOnAll clients turns last → Run settings turns s actions s'
    → WaitForOpen s → WaitForOpen s'
clients_wait settings [] turns s actions s' last reads r waits = subst WaitForOpen (sym (subst (λ (turns : List Turn). Run settings turns s actions s') reads r).1) waits
clients_wait settings (c ∷ clients) turns s actions s' last reads r waits =
    let parts = run_split settings reads.0 reads.1 s actions s' (subst (λ (turns : List Turn). Run settings turns s actions s') reads.2 r) in
    clients_wait settings clients reads.1 parts.0 parts.2 s' last reads.4 parts.4 (readings_wait settings c reads.0 s parts.1 parts.0 reads.3.0 parts.3 waits)

-- ---- a forward ends

-- who waits, waits for a forward that is open, or is one of these
abbrev WaitBut : List ℕ → State → Type 0
WaitBut numbers s = (e f : ℕ) (x : OpenExchange) → get s.exchanges e ≡ Some x → x.waits_for ≡ Some f → IsSome (get s.forwards f) ⊎ IsAmong e numbers

-- what is so where a forward ends
abbrev Ends : ℕ → State → State → Type 0
Ends f s s' = WaitOn s s' × NoOtherEnds f s s'

wait_ended : (f : ℕ) (s s' : State) → Ends f s s' → WaitForOpen s → WaitBut (waiting_for f s.exchanges) s'
wait_ended f s s' ends waits e g x is its =
    ⊎_elim
    (λ (there : IsSome (get s'.forwards g)). inl there)
    (λ (was : get s.exchanges e ≡ Some x).
    ⊎_elim
    (λ (same : f ≡ g). inr (waits_among f e x s.exchanges was (its ∙ ap Some (sym same))))
    (λ (other : f ≡ g → ⊥). inl (ends.1 g other (waits e g x was its)))
    (cases_eq f g))
    (ends.0 e g x is its)

outcome_ends : (ended : Ended) (asker : Asker) (o : Outcome) (s : State) (actions : List Action) (s' : State) → DoesOutcome o ended asker s actions s' → Ends ended.forward s s'
outcome_ends ended asker (Replies reply) s actions s' d = (wait_less s s' ended.exchange d.exchanges, no_other_left s s' ended.forward d.forwards)
outcome_ends ended asker GoesAnew s actions s' d = (
  wait_same s s' d.keeps.exchanges,
  no_other_sent s s' ended.forward (one_more s.numbers.forward)
      (sent_forward (forward_anew asker.wanted.name asker.exchange.target asker.exchange.request).head asker.exchange.target s.numbers.moment
      (purpose.Reply ended.exchange ended.why Plain)) d.forwards,
)

answering_ends : (settings : CoreSettings) (f : ℕ) (ended : Bool) (s : State) (actions : List Action) (s' : State) → Answers settings f ended s actions s' → Ends f s s'
answering_ends settings f ended s actions s' t = by_purpose t.awaited.forward.purpose t.ends
  where
    by_purpose : (p : Purpose) → EndsByResponse p settings (answered_now f t.awaited.forward t.response t.renewed s) s actions s' → Ends f s s'
    by_purpose purpose.Background d = (wait_same s s' d.1.keeps.exchanges, no_other_left s s' f d.1.forwards)
    by_purpose (purpose.Reply e why kind) d =
        outcome_ends (record { forward = f; exchange = e; why = why; first = (answered_now f t.awaited.forward t.response t.renewed s).first })
        (asker_now settings s d.exchange d.connection) d.outcome s actions s' d.does

failing_ends : (settings : CoreSettings) (f : ℕ) (how : Failure) (s : State) (actions : List Action) (s' : State) → Breaks settings f how s actions s' → Ends f s s'
failing_ends settings f how s actions s' t = by_purpose t.awaited.forward.purpose t.ends
  where
    by_purpose : (p : Purpose) → EndsByFailure p settings (failed_now f t.awaited.forward.target how s) s actions s' → Ends f s s'
    by_purpose purpose.Background d = (wait_same s s' d.1.keeps.exchanges, no_other_left s s' f d.1.forwards)
    by_purpose (purpose.Reply e why kind) d =
        outcome_ends (record { forward = f; exchange = e; why = why; first = (failed_now f t.awaited.forward.target how s).first })
        (asker_now settings s d.exchange d.connection) d.outcome s actions s' d.does

-- ---- and those that waited for it are released

-- whoever waits then isn't the one that is released, and waited before
abbrev WaitWithout : ℕ → State → State → Type 0
WaitWithout k s s' = (e f : ℕ) (x : OpenExchange) → get s'.exchanges e ≡ Some x → x.waits_for ≡ Some f → (k ≡ e → ⊥) × (get s.exchanges e ≡ Some x)

releasing_ends : (settings : CoreSettings) (k : ℕ) (s : State) (actions : List Action) (s' : State) → Releases settings k s actions s' → WaitWithout k s s' × NoneEnds s s'
releasing_ends settings k s actions s' t = by_choice (shared s.numbers.moment t.chosen) t.does
  where
    by_choice : (o : Option Stored) → DoesRelease o k (asker_now settings s t.exchange t.connection) s actions s' → WaitWithout k s s' × NoneEnds s s'
    by_choice (Some stored) d = (
      λ e f x is waits. was_left s.exchanges k e x (sym (same_there (remove s.exchanges k) s'.exchanges e d.exchanges) ∙ is),
      none_same s s' d.forwards,
    )
    by_choice None d = (
      λ e f x is waits.
          ⊎_elim
          (λ (p : (k ≡ e) × (released t.exchange ≡ x)). absurd (none_some (released t.exchange).waits_for f refl (ap (λ (z : OpenExchange). z.waits_for) p.1 ∙ waits)))
          (λ (p : (k ≡ e → ⊥) × (get s.exchanges e ≡ Some x)). p)
          (was_put s.exchanges k (released t.exchange) e x (sym (same_there (insert s.exchanges k (released t.exchange)) s'.exchanges e d.exchanges) ∙ is)),
      none_put s s' (one_more s.numbers.forward)
          (sent_forward (forward_alone settings.name t.exchange.target t.exchange.request).head t.exchange.target s.numbers.moment (purpose.Reply k UriMiss Joinable)) d.forwards,
    )

wait_released : (k : ℕ) (numbers : List ℕ) (s s' : State) → WaitWithout k s s' → NoneEnds s s' → WaitBut (k ∷ numbers) s → WaitBut numbers s'
wait_released k numbers s s' without ends but e f x is waits =
    let was = without e f x is waits in
    ⊎_elim
    (λ (there : IsSome (get s.forwards f)). inl (ends f there))
    (λ (among : IsAmong e (k ∷ numbers)). ⊎_elim (λ (same : k ≡ e). absurd (was.0 same)) (λ (rest : IsAmong e numbers). inr rest) among)
    (but e f x was.1 waits)

releases_wait : (settings : CoreSettings) (numbers : List ℕ) (s : State) (actions : List Action) (s' : State) → Run settings (map Releasing numbers) s actions s' → WaitBut numbers s → WaitForOpen s'
releases_wait settings [] s actions s' r but =
    subst WaitForOpen (sym r.1) (λ e f x is waits. ⊎_elim (λ (there : IsSome (get s.forwards f)). there) (λ (none : ⊥). absurd none) (but e f x is waits))
releases_wait settings (k ∷ numbers) s actions s' r but =
    let one = releasing_ends settings k s r.1 r.0 r.3 in
    releases_wait settings numbers r.0 r.2 s' r.5 (wait_released k numbers s r.0 one.0 one.1 but)

-- ---- events

-- a forward ends, those that waited for it are released, and clients are read
ended_waits : (settings : CoreSettings) (f : ℕ) (turn : Turn) (clients : List ℕ) (turns readings : List Turn) (s : State) (actions : List Action) (s' last : State)
    → ((first : List Action) (mid : State) → Takes settings turn s first mid → Ends f s mid) → turns ≡ turn ∷ (map Releasing (waiting_for f s.exchanges) ++ readings)
    → ReadsOnAll clients readings last → Run settings turns s actions s' → WaitForOpen s → WaitForOpen s'
ended_waits settings f turn clients turns readings s actions s' last ends is reads run waits =
    let r = subst (λ (turns : List Turn). Run settings turns s actions s') is run in
    let parts = run_split settings (map Releasing (waiting_for f s.exchanges)) readings r.0 r.2 s' r.5 in
    clients_wait settings clients readings parts.0 parts.2 s' last reads parts.4
    (releases_wait settings (waiting_for f s.exchanges) r.0 parts.1 parts.0 parts.3 (wait_ended f s r.0 (ends r.1 r.0 r.3) waits))

-- one turn alone, which ends nothing
alone_waits : (settings : CoreSettings) (turn : Turn) (turns : List Turn) (s : State) (actions : List Action) (s' : State) → turns ≡ turn ∷ []
    → ((first : List Action) (mid : State) → Takes settings turn s first mid → WaitOn s mid × NoneEnds s mid) → Run settings turns s actions s' → WaitForOpen s → WaitForOpen s'
alone_waits settings turn turns s actions s' is keeps run waits =
    let r = subst (λ (turns : List Turn). Run settings turns s actions s') is run in
    let one = keeps r.1 r.0 r.3 in
    subst WaitForOpen (sym r.5.1) (waits_on s r.0 one.0 one.1 waits)

end_waits : (settings : CoreSettings) (c : ℕ) (leaves : Bool) (exchange : Option ℕ) (turns : List Turn) (s : State) (actions : List Action) (s' : State) → OwesEnd c leaves exchange turns
    → Run settings turns s actions s' → WaitForOpen s → WaitForOpen s'
end_waits settings c true exchange turns s actions s' owes run waits = subst WaitForOpen (sym (subst (λ (turns : List Turn). Run settings turns s actions s') owes run).1) waits
end_waits settings c false (Some e) turns s actions s' owes run waits =
    alone_waits settings (Leaving c) turns s actions s' owes (λ first mid t. (wait_same s mid t.keeps.exchanges, none_same s mid t.keeps.forwards)) run waits
end_waits settings c false None turns s actions s' (inl owes) run waits =
    alone_waits settings (Closing c) turns s actions s' owes (λ first mid t. (wait_same s mid t.keeps.exchanges, none_same s mid t.keeps.forwards)) run waits
end_waits settings c false None turns s actions s' (inr owes) run waits =
    alone_waits settings (Refusal c owes.0) turns s actions s' owes.1 (λ first mid t. (wait_same s mid t.keeps.exchanges, none_same s mid t.keeps.forwards)) run waits

-- octets come from the origin
module _ (settings : CoreSettings) (f : ℕ) (octets : List ℕ) (s : State) (given : List Action) (mid : State) (t : OriginSends f octets s given mid) where
  sent_waits : WaitForOpen s → WaitForOpen mid
  sent_waits waits = waits_on s mid (wait_same s mid t.keeps.exchanges) (none_put s mid f (after_origin_octets octets t.awaited) t.forwards) waits

  sent_ends : (turn : Turn) (turns : List Turn) (rest : List Action) (s' : State) → ((first : List Action) (next : State) → Takes settings turn mid first next → Ends f mid next)
      → OwesReply f turn turns s s' → Run settings turns mid rest s' → WaitForOpen s → WaitForOpen s'
  sent_ends turn turns rest s' ends owes run waits =
      ended_waits settings f turn (clients_of f s) turns owes.0 mid rest s' s' ends
      (owes.1 ∙ ap (λ (xs : Table OpenExchange). turn ∷ (map Releasing (waiting_for f xs) ++ owes.0)) (sym t.keeps.exchanges)) owes.2 run (sent_waits waits)

  sent_then : (turns : List Turn) (rest : List Action) (s' : State) → OwesAnswer f turns s s' → Run settings turns mid rest s' → WaitForOpen s → WaitForOpen s'
  sent_then turns rest s' (inl none) run waits = subst WaitForOpen (sym (subst (λ (turns : List Turn). Run settings turns mid rest s') none.0 run).1) (sent_waits waits)
  sent_then turns rest s' (inr (inl owes)) run waits =
      sent_ends (Answering f false) turns rest s' (λ first next t. answering_ends settings f false mid first next t) owes run waits
  sent_then turns rest s' (inr (inr owes)) run waits =
      sent_ends (Failing f IsBroken) turns rest s' (λ first next t. failing_ends settings f IsBroken mid first next t) owes run waits

owed_waits : (settings : CoreSettings) (happening : Happening) (turns : List Turn) (s : State) (actions : List Action) (s' : State) → Owes happening turns s s' → Run settings turns s actions s'
    → WaitForOpen s → WaitForOpen s'
owed_waits settings (ClientOpened c) turns s actions s' owes run waits =
    alone_waits settings (Opening c) turns s actions s' owes (λ first mid t. (wait_same s mid t.keeps.exchanges, none_same s mid t.keeps.forwards)) run waits
owed_waits settings (ClientBytes c octets) turns s actions s' owes run waits =
    let r = subst (λ (turns : List Turn). Run settings turns s actions s') owes.1 run in
    readings_wait settings c owes.0 r.0 r.2 s' owes.2.0 r.5 (waits_on s r.0 (wait_same s r.0 r.3.keeps.exchanges) (none_same s r.0 r.3.keeps.forwards) waits)
owed_waits settings (ClientEnd c) turns s actions s' owes run waits = end_waits settings c owes.0.leaves owes.0.exchange turns s actions s' owes.2 run waits
owed_waits settings (OriginBytes f octets) turns s actions s' owes run waits =
    let r = subst (λ (turns : List Turn). Run settings turns s actions s') owes.1 run in
    sent_then settings f octets s r.1 r.0 r.3 owes.0 r.2 s' owes.2 r.5 waits
owed_waits settings (OriginEnd f) turns s actions s' (inl owes) run waits =
    ended_waits settings f (Answering f true) (clients_of f s) turns owes.0 s actions s' s' (λ first mid t. answering_ends settings f true s first mid t) owes.1 owes.2 run waits
owed_waits settings (OriginEnd f) turns s actions s' (inr owes) run waits =
    ended_waits settings f (Failing f IsCutOff) (clients_of f s) turns owes.0 s actions s' s' (λ first mid t. failing_ends settings f IsCutOff s first mid t) owes.1 owes.2 run waits
owed_waits settings (OriginFailed f) turns s actions s' owes run waits =
    ended_waits settings f (Failing f IsLost) (clients_of f s) turns owes.0 s actions s' s' (λ first mid t. failing_ends settings f IsLost s first mid t) owes.1 owes.2 run waits
owed_waits settings ToStop turns s actions s' owes run waits =
    alone_waits settings Stopping turns s actions s' owes (λ first mid t. (wait_same s mid t.keeps.exchanges, none_same s mid t.keeps.forwards)) run waits

-- the moment is nothing to what an event owes
pub passed_owes : (moment : ℕ) (happening : Happening) (turns : List Turn) (s s' : State) → Owes happening turns s s' → Owes happening turns (passed_to moment s) s'
passed_owes moment (ClientOpened c) turns s s' owes = owes
passed_owes moment (ClientBytes c octets) turns s s' owes = owes
passed_owes moment (ClientEnd c) turns s s' owes = owes
passed_owes moment (OriginBytes f octets) turns s s' owes = owes
passed_owes moment (OriginEnd f) turns s s' owes = owes
passed_owes moment (OriginFailed f) turns s s' owes = owes
passed_owes moment ToStop turns s s' owes = owes

pub event_waits : (settings : CoreSettings) (event : Event) (s : State) (actions : List Action) (s' : State) → WaitForOpen s → Serves settings event s actions s' → WaitForOpen s'
event_waits settings event s actions s' waits v =
    owed_waits settings event.of v.turns (passed_to event.moment s) actions s' (passed_owes event.moment event.of v.turns s s' v.owes) v.run waits

-- ---- steps

-- what each event keeps is so wherever steps lead
pub steps_keep : (settings : CoreSettings) (P : State → Type 0) → ((event : Event) (s : State) (actions : List Action) (s' : State) → P s → Serves settings event s actions s' → P s')
    → (events : List Event) (results : List StepResult) (s end : State) → Steps settings s events results (Some end) → P s → P end
steps_keep settings P keeps [] [] s end steps is = subst P (sym (some_one end s steps)) is
  where
    some_one : (a b : State) → Some a ≡ Some b → a ≡ b
    some_one a b e = cc
steps_keep settings P keeps [] (result ∷ results) s end steps is = absurd steps
steps_keep settings P keeps (event ∷ events) [] s end steps is = absurd steps
steps_keep settings P keeps (event ∷ events) (Ok actions ∷ results) s end steps is =
    steps_keep settings P keeps events results steps.0 end steps.2 (keeps event s actions.items steps.0 is steps.1)
steps_keep settings P keeps (event ∷ events) (Err Memory ∷ results) s end steps is = absurd (not_none end steps.2)
  where
    not_none : (a : State) → Some a ≡ None → ⊥
    not_none a e = cc
steps_keep settings P keeps (event ∷ events) (Err MomentTooLarge ∷ results) s end steps is = steps_keep settings P keeps events results s end steps.1 is
steps_keep settings P keeps (event ∷ events) (Err UnknownNumber ∷ results) s end steps is = steps_keep settings P keeps events results s end steps.1 is
steps_keep settings P keeps (event ∷ events) (Err TooManyConnections ∷ results) s end steps is = steps_keep settings P keeps events results s end steps.1 is
steps_keep settings P keeps (event ∷ events) (Err Failed ∷ results) s end steps is = absurd steps

pub steps_wait : (settings : CoreSettings) (options : CoreOptions) (events : List Event) (results : List StepResult) (s : State) → Steps settings (new_state_with settings options) events results (Some s) → WaitForOpen s
steps_wait settings options events results s steps =
    steps_keep settings WaitForOpen (event_waits settings) events results (new_state_with settings options) s steps (λ e f x is waits. absurd (none_some (get (new_state_with settings options).exchanges e) x (get_none e) is))

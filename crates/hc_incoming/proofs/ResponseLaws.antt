-- Octets of a forward's connection are one thing.
use Rattle.std.proofs.Common.{◌≡◌, ◌≢◌, ℕ, zero, suc, ◌+◌, ◌≤◌, ◌⊎◌, Bool, true, List, [], ◌++◌, append-nil, drop, Result, Ok, Err, refl, sym, ap, subst, ◌∙◌, arith, inl, inr}
use Rattle.std.specs.declared.alloc.AllocError.{AllocError}
use Rattle.std.proofs.lemmas.Bool.Decides.{nat_tests}
use Rattle.hc_head.specs.declared.head.ResponseHead.{ResponseHead}
use Rattle.hc_head.specs.declared.head.TheConstants.Room.{RECEIVED}
use Rattle.hc_head.specs.Heads.{BeginsResponseHead}
use Rattle.hc_head.specs.Statuses.{is_interim}
use Rattle.hc_framing.specs.declared.fault.FrameFault.{FrameFault}
use Rattle.hc_framing.specs.declared.fault.FrameFault.TheVariants as faults
use Rattle.hc_framing.specs.declared.kind.Kind.TheVariants.{Response}
use Rattle.hc_framing.specs.declared.message.Message.{Message}
use Rattle.hc_framing.specs.Faults.{StandsAtEnd, StandsInWhole, IsWholeResponse}
use Rattle.hc_framing.specs.FramingLaws.{response_laws}
use Rattle.hc_framing.specs.Messages.{response_form}
use Rattle.hc_framing.specs.Reader.{IsInTime}
use Rattle.hc_framing.proofs.ReaderLemmas.{fault_has_none, finds_whole}
use Rattle.hc_incoming.proofs.BeginningLemmas.{begins_on, in_time_has_none, same_begins}
use Rattle.hc_incoming.proofs.ResponseLemmas.{leaves_on}
use Rattle.hc_incoming.specs.declared.arrival.ResponseHeard.{ResponseHeard}
use Rattle.hc_incoming.specs.declared.arrival.ResponseHeard.TheVariants as hears
use Rattle.hc_incoming.specs.declared.responses.ResponseReader.{ResponseReader}
use Rattle.hc_incoming.specs.Responses.{Begins, BeginsInterim, AreInterimThen, IsResponse, IsFaulty, Switches, HasTooMany, IsFailure, IsUnfinished, IsResponseAtEnd, IsFailureAtEnd}
use Rattle.hc_incoming.specs.ResponseReading.{FindsResponse, GivesHeard}

-- a status is interim or final
interim_or_final : (status : ℕ) → is_interim status ≡ true → 200 ≤ status → ⊥
interim_or_final status interim final = grind (arith, nat_tests)

module _ (to_head : Bool) where
  one : (octets : List ℕ) (message other : Message ResponseHead) (m n : ℕ) → Begins to_head octets message m → Begins to_head octets other n → (message ≡ other) × (m ≡ n)
  one octets message other m n p q = same_begins response_form response_laws (Response to_head) RECEIVED octets message other m n p q

  -- no interim response begins the octets that is dropped
  abbrev Stops : List ℕ → Type 0
  Stops octets = (len : ℕ) → ¬ (BeginsInterim to_head octets len)

  -- of two counts of interim responses one goes on from the other
  goes_from : (m n : ℕ) (octets a b : List ℕ) → AreInterimThen to_head m octets a → AreInterimThen to_head n octets b
      → ((k : ℕ) × (m + k ≡ n) × AreInterimThen to_head k a b) ⊎ ((k : ℕ) × (n + suc k ≡ m) × AreInterimThen to_head (suc k) b a)
  goes_from zero n octets a b p q = inl (n, omega arith, subst (λ (o : List ℕ). AreInterimThen to_head n o b) p q)
  goes_from (suc m) zero octets a b p q = inr (m, omega arith, subst (λ (o : List ℕ). AreInterimThen to_head (suc m) o a) q p)
  goes_from (suc m) (suc n) octets a b p q =
      let same = (one octets p.1.message q.1.message p.0 q.0 p.1.begins q.1.begins).1 in
      more (goes_from m n (drop p.0 octets) a b p.2 (subst (λ (k : ℕ). AreInterimThen to_head n (drop k octets) b) (sym same) q.2))
    where
      more : ((k : ℕ) × (m + k ≡ n) × AreInterimThen to_head k a b) ⊎ ((k : ℕ) × (n + suc k ≡ m) × AreInterimThen to_head (suc k) b a)
          → ((k : ℕ) × (suc m + k ≡ suc n) × AreInterimThen to_head k a b) ⊎ ((k : ℕ) × (suc n + suc k ≡ suc m) × AreInterimThen to_head (suc k) b a)
      more (inl x) = inl (x.0, omega (arith, x.1), x.2)
      more (inr x) = inr (x.0, omega (arith, x.1), x.2)

  -- where both stop, the same is left
  same_rest : (m n : ℕ) (octets a b : List ℕ) → AreInterimThen to_head m octets a → AreInterimThen to_head n octets b → Stops a → Stops b → a ≡ b
  same_rest m n octets a b p q stops-a stops-b = go (goes_from m n octets a b p q)
    where
      go : ((k : ℕ) × (m + k ≡ n) × AreInterimThen to_head k a b) ⊎ ((k : ℕ) × (n + suc k ≡ m) × AreInterimThen to_head (suc k) b a) → a ≡ b
      go (inl (zero, e, are)) = are
      go (inl (suc k, e, are)) = absurd (stops-a are.0 are.1)
      go (inr x) = absurd (stops-b x.2.0 x.2.1)

  final_stops : (octets : List ℕ) (message : Message ResponseHead) (len : ℕ) → Begins to_head octets message len → 200 ≤ message.head.status → Stops octets
  final_stops octets message len b final = λ n i.
      interim_or_final i.message.head.status i.interim (subst (λ (m : Message ResponseHead). 200 ≤ m.head.status) (one octets message i.message len n b i.begins).0 final)

  faulty_has_none : (octets : List ℕ) (message : Message ResponseHead) (len : ℕ) → IsFaulty to_head octets → Begins to_head octets message len → ⊥
  faulty_has_none octets message len f b =
      f.not_memory (fault_has_none response_form response_laws (Response to_head) octets RECEIVED message len f.fault b f.stands)

  switch_stops : (octets : List ℕ) → Switches to_head octets → Stops octets
  switch_stops octets s = λ n i. i.no_switch (ap (λ (m : Message ResponseHead). m.head.status) (sym (one octets s.message i.message s.len n s.begins i.begins).0) ∙ s.switches)

  in_time_stops : (octets : List ℕ) → IsInTime response_form (Response to_head) RECEIVED octets → Stops octets
  in_time_stops octets t = λ n i. in_time_has_none response_form response_laws (Response to_head) RECEIVED octets i.message n t i.begins

  -- ---- while the origin sends

  pub response_goes_on : (octets more : List ℕ) (message : Message ResponseHead) → IsResponse to_head octets message → IsResponse to_head (octets ++ more) message
  response_goes_on octets more message p = record {
    count = p.count;
    rest = p.rest ++ more;
    leaves = leaves_on to_head octets p.count p.rest more p.leaves;
    len = p.len;
    begins = begins_on response_form response_laws (Response to_head) RECEIVED p.rest more message p.len p.begins;
    final = p.final;
  }

  same_response : (octets : List ℕ) (message other : Message ResponseHead) → IsResponse to_head octets message → IsResponse to_head octets other → message ≡ other
  same_response octets message other p q =
      let rest = same_rest p.count q.count octets p.rest q.rest p.leaves.are q.leaves.are (final_stops p.rest message p.len p.begins p.final) (final_stops q.rest other q.len q.begins q.final) in
      (one q.rest message other p.len q.len (subst (λ (o : List ℕ). Begins to_head o message p.len) rest p.begins) q.begins).0

  -- one response begins octets, whatever follows
  pub one_response : (octets more : List ℕ) (message other : Message ResponseHead) → IsResponse to_head octets message → IsResponse to_head (octets ++ more) other → message ≡ other
  one_response octets more message other p q = same_response (octets ++ more) message other (response_goes_on octets more message p) q

  pub response_not_failed : (octets : List ℕ) (message : Message ResponseHead) → IsResponse to_head octets message → IsFailure to_head octets → ⊥
  response_not_failed octets message p f = go f.fails
    where
      stops : Stops p.rest
      stops = final_stops p.rest message p.len p.begins p.final

      begins_at : (rest : List ℕ) → p.rest ≡ rest → Begins to_head rest message p.len
      begins_at rest same = subst (λ (o : List ℕ). Begins to_head o message p.len) same p.begins

      on : (t : HasTooMany to_head f.rest f.count)
          → ((k : ℕ) × (p.count + k ≡ f.count) × AreInterimThen to_head k p.rest f.rest) ⊎ ((k : ℕ) × (f.count + suc k ≡ p.count) × AreInterimThen to_head (suc k) f.rest p.rest) → ⊥
      on t (inl (zero, e, are)) = stops t.len (subst (λ (o : List ℕ). BeginsInterim to_head o t.len) (sym are) t.begins)
      on t (inl (suc k, e, are)) = stops are.0 are.1
      on t (inr x) = over p.count f.count x.0 p.leaves.few t.too_many x.1
        where
          over : (m n k : ℕ) → m ≤ 16 → n ≡ 16 → n + suc k ≡ m → ⊥
          over m n k few most is = omega (arith, few, most, is)

      go : IsFaulty to_head f.rest ⊎ Switches to_head f.rest ⊎ HasTooMany to_head f.rest f.count → ⊥
      go (inl x) =
          faulty_has_none f.rest message p.len x (begins_at f.rest (same_rest p.count f.count octets p.rest f.rest p.leaves.are f.leaves.are stops (λ n i. faulty_has_none f.rest i.message n x i.begins)))
      go (inr (inl x)) =
          let b = begins_at f.rest (same_rest p.count f.count octets p.rest f.rest p.leaves.are f.leaves.are stops (switch_stops f.rest x)) in
          switched (one f.rest message x.message p.len x.len b x.begins).0
        where
          switched : message ≡ x.message → ⊥
          switched same = low message.head.status p.final (ap (λ (m : Message ResponseHead). m.head.status) same ∙ x.switches)
            where
              low : (status : ℕ) → 200 ≤ status → status ≡ 101 → ⊥
              low status final is = omega (arith, final, is)
      go (inr (inr x)) = on x (goes_from p.count f.count octets p.rest f.rest p.leaves.are f.leaves.are)

  pub response_not_unfinished : (octets : List ℕ) (message : Message ResponseHead) → IsResponse to_head octets message → IsUnfinished to_head octets → ⊥
  response_not_unfinished octets message p u =
      let rest = same_rest p.count u.count octets p.rest u.rest p.leaves.are u.leaves.are (final_stops p.rest message p.len p.begins p.final) (in_time_stops u.rest u.in_time) in
      in_time_has_none response_form response_laws (Response to_head) RECEIVED u.rest message p.len u.in_time (subst (λ (o : List ℕ). Begins to_head o message p.len) rest p.begins)

  -- a response that is there is found
  pub finds_response : (result : Result ResponseHeard AllocError) (r : ResponseReader) (octets : List ℕ) (message : Message ResponseHead) → GivesHeard result to_head r octets → IsResponse to_head octets message
      → FindsResponse result message
  finds_response (Ok (hears.Response found)) r octets message gives p = same_response octets found message gives p
  finds_response (Ok (hears.Failed trouble)) r octets message gives p = response_not_failed octets message p gives.failure
  finds_response (Ok hears.More) r octets message gives p = response_not_unfinished octets message p gives.0
  finds_response (Err e) r octets message gives p = tt

  -- ---- the origin's end

  whole_stops : (octets : List ℕ) (message : Message ResponseHead) → IsWholeResponse to_head octets RECEIVED message → 200 ≤ message.head.status → Stops octets
  whole_stops octets message w final = λ n i.
      let p = i.begins.begins in
      let same = response_laws.one_head octets [] w.is.head p.head w.is.head_len p.head_len w.is.begins (subst (λ (o : List ℕ). BeginsResponseHead o p.head p.head_len) (sym (append-nil octets)) p.begins) in
      let status : message.head ≡ i.message.head = w.is.head_is ∙ ap response_form.without_framing same.0 ∙ sym p.head_is in
      interim_or_final i.message.head.status i.interim (subst (λ (h : ResponseHead). 200 ≤ h.status) status final)

  at_end_in_whole : (fault : FrameFault) (octets : List ℕ) → StandsAtEnd response_form (Response to_head) fault octets RECEIVED → StandsInWhole response_form (Response to_head) fault octets RECEIVED
  at_end_in_whole (faults.Head f) octets stands = stands
  at_end_in_whole faults.BothLengths octets stands = absurd stands
  at_end_in_whole faults.BadLength octets stands = absurd stands
  at_end_in_whole faults.BadCoding octets stands = absurd stands
  at_end_in_whole faults.BadChunk octets stands = absurd stands
  at_end_in_whole faults.BodyTooLong octets stands = absurd stands
  at_end_in_whole faults.Truncated octets stands = stands
  at_end_in_whole faults.Memory octets stands = tt
  at_end_in_whole faults.Failed octets stands = absurd stands

  at_end_stops : (fault : FrameFault) (octets : List ℕ) → fault ≢ faults.Memory → StandsAtEnd response_form (Response to_head) fault octets RECEIVED → Stops octets
  at_end_stops (faults.Head f) octets not stands = λ n i. not (fault_has_none response_form response_laws (Response to_head) octets RECEIVED i.message n (faults.Head f) i.begins stands)
  at_end_stops faults.BothLengths octets not stands = absurd stands
  at_end_stops faults.BadLength octets not stands = absurd stands
  at_end_stops faults.BadCoding octets not stands = absurd stands
  at_end_stops faults.BadChunk octets not stands = absurd stands
  at_end_stops faults.BodyTooLong octets not stands = absurd stands
  at_end_stops faults.Truncated octets not (inl a) = λ n i. a.none i.begins.begins.head i.begins.begins.head_len i.begins.octets_fit i.begins.begins.begins
  at_end_stops faults.Truncated octets not (inr a) = in_time_stops octets (inr a.0)
  at_end_stops faults.Memory octets not stands = absurd (not refl)
  at_end_stops faults.Failed octets not stands = absurd stands

  pub one_response_at_end : (octets : List ℕ) (message other : Message ResponseHead) → IsResponseAtEnd to_head octets message → IsResponseAtEnd to_head octets other → message ≡ other
  one_response_at_end octets message other p q =
      let rest = same_rest p.count q.count octets p.rest q.rest p.leaves.are q.leaves.are (whole_stops p.rest message p.is_whole p.final) (whole_stops q.rest other q.is_whole q.final) in
      finds_whole response_form response_laws (Response to_head) q.rest RECEIVED (Ok message) other (subst (λ (o : List ℕ). IsWholeResponse to_head o RECEIVED message) rest p.is_whole) q.is_whole

  pub response_not_failed_at_end : (octets : List ℕ) (message : Message ResponseHead) → IsResponseAtEnd to_head octets message → IsFailureAtEnd to_head octets → ⊥
  response_not_failed_at_end octets message p f =
      let rest = same_rest p.count f.count octets p.rest f.rest p.leaves.are f.leaves.are (whole_stops p.rest message p.is_whole p.final) (at_end_stops f.fault f.rest f.not_memory f.stands) in
      f.not_memory (finds_whole response_form response_laws (Response to_head) f.rest RECEIVED (Err f.fault) message (at_end_in_whole f.fault f.rest f.stands)
      (subst (λ (o : List ℕ). IsWholeResponse to_head o RECEIVED message) rest p.is_whole))

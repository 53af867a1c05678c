-- What the client's side of a connection tells, behind one move more.
use Rattle.std.proofs.Common.{◌≡◌, ℕ, ◌+◌, ◌<◌, ◌==◌, Bool, true, false, Option, Some, List, [], ◌∷◌, ◌++◌, ◌≤◌, length, if◌then◌else◌, min, sym, ap, ◌∙◌, subst, arith, append_assoc, append-nil, refl}
use Rattle.std.proofs.lemmas.Bool.Decides.{nat_tests}
use Rattle.hc_service.specs.declared.event.Happening.{Happening}
use Rattle.hc_service.specs.declared.event.Happening.TheVariants.{ClientBytes, ClientEnd, ClientOpened}
use Rattle.hc_connection.specs.declared.client_side.ClientSide.{ClientSide}
use Rattle.hc_order.specs.declared.occurrence.Occurrence.{Occurrence}
use Rattle.hc_order.specs.declared.occurrence.Reason.{Reason}
use Rattle.hc_order.specs.declared.occurrence.Reason.TheVariants.{Peer, Replies, Reads}
use Rattle.hc_order.specs.declared.receiver.Receiver.{Receiver}
use Rattle.hc_order.specs.declared.receiver.Receiver.TheVariants.{Client}
use Rattle.hc_links.specs.Links.{CountsFailure, IsBeginning}
use Rattle.hc_connection.specs.Moves.{AreRead, HappensFor, IsOf, earlier_or, failures_before, first_in, given_by, given_in, is_end_of, is_ended_in, is_of_client, is_of_reads, is_spent_in, most_reads, most_replies, octets_of, one_for, one_of_client, one_of_origin, replies_in, sent_by, sent_in}
use Rattle.hc_links.specs.Links.{most_octets}
use Rattle.hc_links.specs.Telling.{occurs}
use Rattle.hc_order.specs.Log.{Move}
use Rattle.hc_order.specs.Log.Move.{Heard, Sent}
use Rattle.hc_service.specs.Numbers.{is_later}
use Rattle.hc_order.specs.Mirrors.{last_opened}
use Rattle.hc_connection.specs.Sides.{CountsFailed, CountsReads, MayEndFor, Opens, Tells, TellsSparing, most_counted}

same_itself : (n : ℕ) → (n == n) ≡ true
same_itself n = grind (arith, nat_tests)

one_for_itself : (c : ℕ) → one_for c (Client c) ≡ 1
one_for_itself c = ap (λ (b : Bool). if b then 1 else 0) (same_itself c)

its_own : (c : ℕ) (octets : List ℕ) → (if c == c then octets else []) ≡ octets
its_own c octets = ap (λ (b : Bool). if b then octets else []) (same_itself c)

-- a count that stays at its last value
counts_on : (sent before after : ℕ) → before ≡ min sent most_counted → after ≡ min (before + 1) most_counted → after ≡ min (1 + sent) most_counted
counts_on sent before after was is = omega (arith, was, is)

few_sent : (sent counted : ℕ) → counted ≡ min sent most_counted → counted < most_replies → sent < most_replies
few_sent sent counted is few = omega (arith, is, few)

many_sent : (sent counted : ℕ) → counted ≡ min sent most_counted → most_replies ≤ counted → most_replies ≤ sent
many_sent sent counted is many = omega (arith, is, many)

none_more : (n sent : ℕ) → n ≡ 0 → sent ≡ n + sent
none_more n sent none = omega (arith, none)

-- ---- reads that are left

false_true : false ≡ true → ⊥
false_true e = cc

unspent : (spent : Bool) (spare reads : ℕ) → (spent ≡ true → spare + most_reads ≤ reads) → reads < spare + most_reads → spent ≡ false
unspent false spare reads none few = refl
unspent true spare reads none few = let all = none refl in absurd (omega (arith, all, few))

spent_by : (of_reads spent : Bool) (spare reads : ℕ) → (of_reads ≡ true → most_reads ≤ reads) → (spent ≡ true → spare + most_reads ≤ reads)
    → (if of_reads then true else spent) ≡ true → 0 + most_reads ≤ reads
spent_by true spent spare reads now before is = now refl
spent_by false spent spare reads now before is = let all = before is in omega (arith, all)

-- ---- failures

works : (failed : Bool) (before now : ℕ) → failed ≡ false → CountsFailed failed before now → now ≡ before
works true before now none counted = absurd (cc)
works false before now none counted = counted

as_before : (failed : Bool) (before now : ℕ) → failed ≡ false → now ≡ before → CountsFailed failed before now
as_before true before now none same = absurd (cc)
as_before false before now none same = same

has_failed : (failed : Bool) (before mid now : ℕ) → failed ≡ false → CountsFailed failed before mid → CountsFailure mid now → CountsFailure before now
has_failed failed before mid now none counted fails = subst (λ (n : ℕ). CountsFailure n now) (works failed before mid none counted) fails

-- ---- beginnings

begins_more : (got sent more : List ℕ) → IsBeginning got sent → IsBeginning got (sent ++ more)
begins_more got sent more b = (b.0 ++ more, ap (λ (o : List ℕ). o ++ more) b.1 ∙ append_assoc got b.0 more)

begins_behind : (got sent front more : List ℕ) → got ≡ sent → IsBeginning front more → IsBeginning (got ++ front) (sent ++ more)
begins_behind got sent front more same b =
    (b.0, ap (λ (o : List ℕ). sent ++ o) b.1 ∙ sym (append_assoc sent front b.0) ∙ ap (λ (o : List ℕ). (o ++ front) ++ b.0) (sym same))

whole_begins : (got sent : List ℕ) → got ≡ sent → IsBeginning got sent
whole_begins got sent same = ([], sym same ∙ sym (append-nil got))

-- ---- reads

module _ {C : Type 0} {was_read : C → ℕ → Type 0} {link : C} {before came others spare counted : ℕ} (r : CountsReads was_read link before came others spare counted) where
  -- the link is another, or the same, and was read no more
  pub reads_kept : (now : C) → ((times : ℕ) → was_read link times → was_read now times) → CountsReads was_read now before came others spare counted
  reads_kept now keeps = record { since = r.since; was = keeps (r.since + before) r.was; all = r.all; within = r.within }

  -- a read of another link, or none
  pub of_another : {mine other : ℕ} → mine ≡ 0 → other ≤ spare → CountsReads was_read link before (mine + came) (other + others) 0 counted
  of_another none once = let within = r.within in let all = r.all in record {
    since = r.since;
    was = r.was;
    all = omega (arith, all, none);
    within = omega (arith, within, once);
  }

module _ {C : Type 0} {was_read : C → ℕ → Type 0} {link : C} {before came others counted : ℕ} (r : CountsReads was_read link before came others 1 counted) where
  -- it came, and brought octets
  pub read_came : (now : C) → ((times : ℕ) → was_read link times → was_read now (1 + times)) → CountsReads was_read now before (1 + came) (0 + others) 0 counted
  read_came now reads = let within = r.within in let all = r.all in record {
    since = 1 + r.since;
    was = subst (was_read now) (omega arith) (reads (r.since + before) r.was);
    all = omega (arith, all);
    within = omega (arith, within);
  }

  -- it came, or not, and brought none
  pub read_perhaps : (now : C) → ((times : ℕ) → was_read link times → (more : ℕ) × (more ≤ 1) × was_read now (more + times)) → CountsReads was_read now before came others 0 counted
  read_perhaps now reads =
      let perhaps = reads (r.since + before) r.was in
      let within = r.within in
      let all = r.all in
      let most = perhaps.1 in record {
        since = perhaps.0 + r.since;
        was = subst (was_read now) (omega arith) perhaps.2;
        all = omega (arith, all);
        within = omega (arith, within, most);
      }

-- ---- moves

module _ {C : Type 0} (has_given has_got : C → List ℕ → Type 0) (was_read : C → ℕ → Type 0) (count : C → ℕ) where
  -- the link of a side, and what was counted, once octets were sent
  abbrev replied : ClientSide C → C → Bool → ℕ → ClientSide C
  replied side link failed replies =
      record { number = side.number; link = link; failed = failed; ended = side.ended; closed = side.closed; reads = side.reads; replies = replies }

  -- where reads are left links are read still
  pub still_read : (spare : ℕ) (side : ClientSide C) (log : List Move) → TellsSparing has_given has_got was_read count spare side log → side.reads < spare + most_reads → AreRead log
  still_read spare side log t few =
      let within = t.reads.within in
      let all = t.reads.all in (
        unspent (is_spent_in log) spare side.reads t.spent few,
        omega (arith, all, within, few),
      )

  module _ (side : ClientSide C) (log : List Move) (t : Tells has_given has_got was_read count side log) (octets : List ℕ) (replies : ℕ)
      (more : replies ≡ min (side.replies + 1) most_counted) where
    sent_is : sent_in side.number log ++ sent_by side.number (Client side.number) octets ≡ sent_in side.number log ++ octets
    sent_is = ap (λ (o : List ℕ). sent_in side.number log ++ o) (its_own side.number octets)

    count_is : replies ≡ min (one_for side.number (Client side.number) + replies_in side.number log) most_counted
    count_is =
        counts_on (replies_in side.number log) side.replies replies t.replies more
        ∙ ap (λ (n : ℕ). min (n + replies_in side.number log) most_counted) (sym (one_for_itself side.number))

    -- the link had failed before
    pub lost : side.failed ≡ true → Tells has_given has_got was_read count (replied side side.link side.failed replies) (Sent (Client side.number) octets ∷ log)
    lost failed = record {
      own = t.own;
      given = t.given;
      got = t.got;
      has_it = t.has_it;
      begins = begins_more t.got (sent_in side.number log) (sent_by side.number (Client side.number) octets) t.begins;
      whole = λ none. absurd (true_false (sym failed ∙ none));
      counted = t.counted;
      replies = count_is;
      reads = t.reads;
      few = t.few;
      spent = t.spent;
      closed = t.closed;
      ended = t.ended;
      in_time = t.in_time;
      short = t.short;
      reasons = t.reasons;
    }
      where
        true_false : true ≡ false → ⊥
        true_false e = cc

    -- all of them were written
    pub wrote : (link : C) → side.failed ≡ false → ((given : List ℕ) → has_given side.link given → has_given link given)
        → ((got : List ℕ) → has_got side.link got → has_got link (got ++ octets)) → ((times : ℕ) → was_read side.link times → was_read link times) → count link ≡ count side.link
        → Tells has_given has_got was_read count (replied side link side.failed replies) (Sent (Client side.number) octets ∷ log)
    wrote link none gives gets reads same = record {
      own = t.own;
      given = gives (given_in log) t.given;
      got = t.got ++ octets;
      has_it = gets t.got t.has_it;
      begins = whole_begins (t.got ++ octets) _ all;
      whole = λ still. all;
      counted = as_before side.failed (failures_before log) (count link) none (same ∙ works side.failed (failures_before log) (count side.link) none t.counted);
      replies = count_is;
      reads = reads_kept t.reads link reads;
      few = t.few;
      spent = t.spent;
      closed = t.closed;
      ended = t.ended;
      in_time = t.in_time;
      short = t.short;
      reasons = t.reasons;
    }
      where
        all : t.got ++ octets ≡ sent_in side.number log ++ sent_by side.number (Client side.number) octets
        all = ap (λ (o : List ℕ). o ++ octets) (t.whole none) ∙ sym sent_is

    -- the link failed at that
    pub failed_now : (link : C) → side.failed ≡ false → ((given : List ℕ) → has_given side.link given → has_given link given)
        → ((got : List ℕ) → has_got side.link got → (front : List ℕ) × IsBeginning front octets × has_got link (got ++ front))
        → ((times : ℕ) → was_read side.link times → was_read link times) → CountsFailure (count side.link) (count link)
        → Tells has_given has_got was_read count (replied side link true replies) (Sent (Client side.number) octets ∷ log)
    failed_now link none gives gets reads fails =
        let part = gets t.got t.has_it in record {
          own = t.own;
          given = gives (given_in log) t.given;
          got = t.got ++ part.0;
          has_it = part.2;
          begins = subst (λ (o : List ℕ). IsBeginning (t.got ++ part.0) o) (sym sent_is)
              (begins_behind t.got (sent_in side.number log) part.0 octets (t.whole none) part.1);
          whole = λ still. absurd (true_false still);
          counted = has_failed side.failed (failures_before log) (count side.link) (count link) none t.counted fails;
          replies = count_is;
          reads = reads_kept t.reads link reads;
          few = t.few;
          spent = t.spent;
          closed = t.closed;
          ended = t.ended;
          in_time = t.in_time;
          short = t.short;
          reasons = t.reasons;
        }
      where
        true_false : true ≡ false → ⊥
        true_false e = cc

  module _ (side : ClientSide C) (log : List Move) (t : TellsSparing has_given has_got was_read count 1 side log) (link : C) (none : side.failed ≡ false)
      (gets : (got : List ℕ) → has_got side.link got → has_got link got) where
    -- octets were read
    pub heard : (octets : List ℕ) (moment : ℕ) → side.replies < most_replies → side.closed ≡ false → side.ended ≡ false → length octets ≤ most_octets
        → ((given : List ℕ) → has_given side.link given → has_given link (given ++ octets)) → ((times : ℕ) → was_read side.link times → was_read link (1 + times)) → count link ≡ count side.link
        → Tells has_given has_got was_read count (replied side link side.failed side.replies) (Heard (occurs moment (ClientBytes side.number octets) Peer) ∷ log)
    heard octets moment few still_open on short gives reads same = record {
      own = (refl, t.own);
      given = gives (given_in log) t.given;
      got = t.got;
      has_it = gets t.got t.has_it;
      begins = t.begins;
      whole = t.whole;
      counted = as_before side.failed (failures_before log) (count link) none (same ∙ works side.failed (failures_before log) (count side.link) none t.counted);
      replies = t.replies;
      reads = read_came t.reads link reads;
      few = t.few;
      spent = λ is. absurd (false_true (sym read_on.0 ∙ is));
      closed = t.closed;
      ended = t.ended;
      in_time = (
        (λ is_read. (few_sent (replies_in side.number log) side.replies t.replies few, (sym t.ended ∙ on, sym t.closed ∙ still_open))),
        (λ is_end. absurd (false_true is_end)),
        t.in_time,
      );
      short = (short, t.short);
      reasons = ((refl, read_on), t.reasons);
    }
      where
        read_on : AreRead log
        read_on = let at_most = t.few in still_read 1 side log t (omega (arith, at_most))

    -- no more will come
    pub ended : ((given : List ℕ) → has_given side.link given → has_given link given) → ((times : ℕ) → was_read side.link times → was_read link (1 + times))
        → count link ≡ count side.link → Tells has_given has_got was_read count (replied side link side.failed side.replies) log
    ended gives reads same = record {
      own = t.own;
      given = gives (given_in log) t.given;
      got = t.got;
      has_it = gets t.got t.has_it;
      begins = t.begins;
      whole = t.whole;
      counted = as_before side.failed (failures_before log) (count link) none (same ∙ works side.failed (failures_before log) (count side.link) none t.counted);
      replies = t.replies;
      reads = read_perhaps t.reads link (λ times was. (1, omega arith, reads times was));
      few = t.few;
      spent = λ is. let all = t.spent is in omega (arith, all);
      closed = t.closed;
      ended = t.ended;
      in_time = t.in_time;
      short = t.short;
      reasons = t.reasons;
    }

    -- the link failed
    pub broken : ((given : List ℕ) → has_given side.link given → has_given link given)
        → ((times : ℕ) → was_read side.link times → (more : ℕ) × (more ≤ 1) × was_read link (more + times)) → CountsFailure (count side.link) (count link)
        → Tells has_given has_got was_read count (replied side link true side.replies) log
    broken gives reads fails = record {
      own = t.own;
      given = gives (given_in log) t.given;
      got = t.got;
      has_it = gets t.got t.has_it;
      begins = t.begins;
      whole = λ still. absurd (true_false still);
      counted = has_failed side.failed (failures_before log) (count side.link) (count link) none t.counted fails;
      replies = t.replies;
      reads = read_perhaps t.reads link reads;
      few = t.few;
      spent = λ is. let all = t.spent is in omega (arith, all);
      closed = t.closed;
      ended = t.ended;
      in_time = t.in_time;
      short = t.short;
      reasons = t.reasons;
    }
      where
        true_false : true ≡ false → ⊥
        true_false e = cc

  -- ---- what is told, and why

  -- where one more read may be there are reads left
  pub read_still : (side : ClientSide C) (log : List Move) → TellsSparing has_given has_got was_read count 1 side log → AreRead log
  read_still side log t = let few = t.few in still_read 1 side log t (omega (arith, few))

  module _ (side : ClientSide C) (log : List Move) (t : Tells has_given has_got was_read count side log) where
    pub replies_reached : most_replies ≤ side.replies → MayEndFor side Replies log
    replies_reached many = (many_sent (replies_in side.number log) side.replies t.replies many, λ is. absurd (false_true is))

    pub reads_reached : side.replies < most_replies → most_reads ≤ side.reads → MayEndFor side Reads log
    reads_reached few all = (few_sent (replies_in side.number log) side.replies t.replies few, λ is. all)

    pub by_peer : side.replies < most_replies → AreRead log → MayEndFor side Peer log
    by_peer few still = ((few_sent (replies_in side.number log) side.replies t.replies few, still), λ is. absurd (false_true is))

    -- the client sends no more
    pub left : (moment : ℕ) (reason : Reason) → MayEndFor side reason log → side.ended ≡ false → side.closed ≡ false
        → Tells has_given has_got was_read count (record { number = side.number; link = side.link; failed = side.failed; ended = true; closed = side.closed; reads = side.reads; replies = side.replies })
        (Heard (occurs moment (ClientEnd side.number) reason) ∷ log)
    left moment reason may on still_open = record {
      own = (refl, t.own);
      given = subst (has_given side.link) (sym (append-nil (given_in log))) t.given;
      got = t.got;
      has_it = t.has_it;
      begins = t.begins;
      whole = t.whole;
      counted = t.counted;
      replies = t.replies;
      reads = of_another t.reads refl (omega arith);
      few = t.few;
      spent = spent_by (is_of_reads reason) (is_spent_in log) 0 side.reads may.1 t.spent;
      closed = t.closed;
      ended = sym (ap (λ (b : Bool). if b then true else is_ended_in side.number log) (same_itself side.number));
      in_time = ((λ is_read. absurd (false_true is_read)), (λ is_end. (sym t.ended ∙ on, sym t.closed ∙ still_open)), t.in_time);
      short = (omega arith, t.short);
      reasons = (may.0, t.reasons);
    }

  -- what happens on a forward
  module _ (spare : ℕ) (side : ClientSide C) (log : List Move) (t : TellsSparing has_given has_got was_read count spare side log) where
    pub on_forward : (moment : ℕ) (of : Happening) (reason : Reason) → IsOf side.number of → given_by of ≡ [] → one_of_client of ≡ 0 → one_of_origin of ≤ spare → is_of_client of ≡ false
        → is_end_of side.number of ≡ false → length (octets_of of) ≤ most_octets → HappensFor side.number of reason log → (is_of_reads reason ≡ true → most_reads ≤ side.reads)
        → Tells has_given has_got was_read count side (Heard (occurs moment of reason) ∷ log)
    on_forward moment of reason its none no_client once not_client not_end short why reached = record {
      own = (its, t.own);
      given = subst (has_given side.link) (sym (append-nil (given_in log)) ∙ ap (λ (o : List ℕ). given_in log ++ o) (sym none)) t.given;
      got = t.got;
      has_it = t.has_it;
      begins = t.begins;
      whole = t.whole;
      counted = t.counted;
      replies = t.replies;
      reads = of_another t.reads no_client once;
      few = t.few;
      spent = spent_by (is_of_reads reason) (is_spent_in log) spare side.reads reached t.spent;
      closed = t.closed;
      ended = t.ended ∙ ap (λ (b : Bool). if b then true else is_ended_in side.number log) (sym not_end);
      in_time = ((λ is_read. absurd (true_false (sym is_read ∙ not_client))), (λ is_end. absurd (true_false (sym is_end ∙ not_end))), t.in_time);
      short = (short, t.short);
      reasons = (why, t.reasons);
    }
      where
        true_false : true ≡ false → ⊥
        true_false e = cc

  -- octets that go elsewhere
  pub elsewhere : (side : ClientSide C) (log : List Move) (to : Receiver) (octets : List ℕ) → sent_by side.number to octets ≡ [] → one_for side.number to ≡ 0
      → Tells has_given has_got was_read count side log → Tells has_given has_got was_read count side (Sent to octets ∷ log)
  elsewhere side log to octets none no_reply t = record {
    own = t.own;
    given = t.given;
    got = t.got;
    has_it = t.has_it;
    begins = begins_more t.got (sent_in side.number log) (sent_by side.number to octets) t.begins;
    whole = λ works_still. t.whole works_still ∙ sym (append-nil (sent_in side.number log)) ∙ ap (λ (o : List ℕ). sent_in side.number log ++ o) (sym none);
    counted = t.counted;
    replies = t.replies ∙ ap (λ (n : ℕ). min n most_counted) (none_more (one_for side.number to) (replies_in side.number log) no_reply);
    reads = t.reads;
    few = t.few;
    spent = t.spent;
    closed = t.closed;
    ended = t.ended;
    in_time = t.in_time;
    short = t.short;
    reasons = t.reasons;
  }

-- the other side did it, so nothing is said of reads
pub no_reads : is_of_reads Peer ≡ true → (n : ℕ) → most_reads ≤ n
no_reads is n = absurd (false_true is)

pub not_its : (c d : ℕ) (octets : List ℕ) → (d == c) ≡ false → sent_by c (Client d) octets ≡ []
not_its c d octets other = ap (λ (b : Bool). if b then octets else []) other

pub no_reply_of_its : (c d : ℕ) → (d == c) ≡ false → one_for c (Client d) ≡ 0
no_reply_of_its c d other = ap (λ (b : Bool). if b then 1 else 0) other

-- ---- what happened first

pub opens_by : (opened : Bool) (c d : ℕ) (log log' : List Move) → first_in log' ≡ first_in log → last_opened log' ≡ last_opened log → d ≡ c → Opens opened c log → Opens opened d log'
opens_by true c d log log' same last is o = same ∙ o ∙ ap (λ (n : ℕ). Some (ClientOpened n)) (sym is)
opens_by false c d log log' same last is o = (same ∙ o.0, ap (λ (n : ℕ). is_later n (last_opened log')) is ∙ ap (is_later c) last ∙ o.1)

pub opens_heard : (opened : Bool) (c d : ℕ) (occurrence : Occurrence) (log : List Move) → opened ≡ true → d ≡ c → Opens opened c log → Opens opened d (Heard occurrence ∷ log)
opens_heard true c d occurrence log was is o = ap (λ (first : Option Happening). earlier_or first occurrence.event.of) o ∙ ap (λ (n : ℕ). Some (ClientOpened n)) (sym is)
opens_heard false c d occurrence log was is o = absurd (cc)

-- ---- a client of whom more is heard

pub is_on : (ended closed : Bool) → (if ended then true else closed) ≡ false → (ended ≡ false) × (closed ≡ false)
is_on true closed is = absurd (cc)
is_on false closed is = (refl, is)

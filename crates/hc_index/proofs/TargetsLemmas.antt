-- What is kept of one target, and what changes of it among all targets.
use Rattle.std.proofs.Common.{◌≡◌, ℕ, Bool, cond, List, ◌∷◌, [], ◌++◌, Option, Some, None, IsSome, map, refl, sym, ap, subst, ◌∙◌}
use Rattle.std.specs.BTreeMap.{get, Updates, UpdatesBy, WritesThrough}
use Rattle.hc_head.specs.declared.head.ResponseHead.{ResponseHead}
use Rattle.hc_head.specs.declared.head.Target.{Target}
use Rattle.hc_framing.specs.declared.message.Message.{Message}
use Rattle.hc_transcript.specs.declared.line.ToldCause.{ToldCause}
use Rattle.hc_transcript.specs.Items.{Forward}
use Rattle.hc_history.specs.States.{begun_by}
use Rattle.hc_head.specs.Statuses.{is_error_status}
use Rattle.hc_history.specs.Noting.{live_answered}
use Rattle.hc_history.specs.Seen.{Live, live_at}
use Rattle.hc_head.proofs.SameTargetLemmas.{same_target_itself}
use Rattle.hc_index.specs.declared.kept.LiveResponse.{LiveResponse}
use Rattle.hc_index.specs.declared.at_target.AtTarget.{AtTarget}
use Rattle.hc_index.specs.Lists.{by_target, live_in, targeted, targeted_answered}
use Rattle.hc_index.specs.Windows.{ToldResponse, answer_to}
use Rattle.hc_index.specs.Maps.{KeepsSame, OpensAt, ClosesAt, FailsAt, AnswersAt, ChangesAt, Targets}
use Rattle.hc_index.proofs.LiveLemmas.{lives_answered_in}
use Rattle.hc_index.proofs.PositionLemmas.{tied}

-- ---- one target: where no more is known before or after

pub opens_from : (target : Target) (number behind : ℕ) (o m n : Option AtTarget) → KeepsSame target o m → OpensAt target number behind m n → OpensAt target number behind o n
opens_from target number behind o m n same opens = record {
  live = opens.live ∙ same.live;
  error = opens.error ∙ same.error;
  failure = opens.failure ∙ same.failure;
  opened = opens.opened;
  nothing_yet = opens.nothing_yet;
  others = λ b e ne. opens.others b e ne ∙ same.others b e;
  windows = λ b e is. opens.windows b e (same.others b e ∙ is) ∙ same.windows b e is;
}

pub closes_to : (target : Target) (number : ℕ) (o m n : Option AtTarget) → ClosesAt target number o m → KeepsSame target m n → ClosesAt target number o n
closes_to target number o m n closes same = record {
  live = same.live ∙ closes.live;
  error = same.error ∙ closes.error;
  failure = same.failure ∙ closes.failure;
  others = λ b e ne. same.others b e ∙ closes.others b e ne;
  windows = λ b e ne is. same.windows b e (closes.others b e ne ∙ is) ∙ closes.windows b e ne is;
}

pub fails_from : (target : Target) (position : ℕ) (o m n : Option AtTarget) → KeepsSame target o m → FailsAt target position m n → FailsAt target position o n
fails_from target position o m n same fails = record {
  live = fails.live ∙ same.live;
  error = fails.error ∙ same.error;
  failure = fails.failure;
  others = λ b e. fails.others b e ∙ same.others b e;
  windows = λ b e is. fails.windows b e (same.others b e ∙ is) ∙ same.windows b e is;
}

pub answers_from : (forward : Forward) (cause : ToldCause) (position moment : ℕ) (response : Message ResponseHead) (o m n : Option AtTarget)
    → KeepsSame forward.target o m → AnswersAt forward cause position moment response m n → AnswersAt forward cause position moment response o n
answers_from forward cause position moment response o m n same answers = record {
  live = answers.live
      ∙ ap (λ (ls : List Live). map (live_answered forward position moment response) ls ++ live_at forward.target position (begun_by forward moment response)) same.live;
  error = answers.error ∙ ap (cond (is_error_status response.head.status) position) same.error;
  failure = answers.failure ∙ same.failure;
  others = λ b e. answers.others b e ∙ same.others b e;
  windows = λ b e is. answers.windows b e (same.others b e ∙ is)
      ∙ ap (λ (ws : List ToldResponse). ws ++ answer_to forward cause response ∷ []) (same.windows b e is);
}

pub answers_to : (forward : Forward) (cause : ToldCause) (position moment : ℕ) (response : Message ResponseHead) (o m n : Option AtTarget)
    → AnswersAt forward cause position moment response o m → KeepsSame forward.target m n → AnswersAt forward cause position moment response o n
answers_to forward cause position moment response o m n answers same = record {
  live = same.live ∙ answers.live;
  error = same.error ∙ answers.error;
  failure = same.failure ∙ answers.failure;
  others = λ b e. same.others b e ∙ answers.others b e;
  windows = λ b e is. same.windows b e (answers.others b e ∙ is) ∙ answers.windows b e is;
}

-- the live responses of the forward's target, and what the response begins
pub lives_answered_here : (forward : Forward) (position moment : ℕ) (response : Message ResponseHead) (old mid new : List LiveResponse)
    → map targeted mid ≡ map (targeted_answered forward position moment response) (map targeted old)
    → live_in forward.target new ≡ live_in forward.target mid ++ live_at forward.target position (begun_by forward moment response)
    → live_in forward.target new ≡ map (live_answered forward position moment response) (live_in forward.target old) ++ live_at forward.target position (begun_by forward moment response)
lives_answered_here forward position moment response old mid new answered begun =
    begun ∙ ap (λ (ls : List Live). ls ++ live_at forward.target position (begun_by forward moment response))
    (lives_answered_in forward.target forward position moment response old mid answered
    ∙ ap (λ (b : Bool). cond b (map (live_answered forward position moment response) (live_in forward.target old)) (live_in forward.target old))
    (same_target_itself forward.target))

-- ---- all targets

some_is : {X : Type 0} (o : Option X) (x : X) → Some x ≡ o → IsSome o
some_is o x is = subst IsSome is refl

pub replaced : (target : Target) (old new : Targets) (w : Option AtTarget) (R : Option AtTarget → Option AtTarget → Type 0)
    → UpdatesBy by_target (by_target target) old new w → R (get by_target old target) w → ChangesAt target old new R
replaced target old new w R updates changes = record {
  here = subst (R (get by_target old target)) (sym updates.1) changes;
  elsewhere = λ other differs. updates.2 other (tied target other ∙ differs);
}

-- what was lent of it is written back
pub written_back : (target : Target) (old new : Targets) (was w : AtTarget) (R : Option AtTarget → Option AtTarget → Type 0)
    → Some was ≡ get by_target old target → WritesThrough by_target (by_target target) old w new → R (Some was) (Some w) → ChangesAt target old new R
written_back target old new was w R is written changes =
    replaced target old new (Some w) R (written.3 (some_is (get by_target old target) was is)) (subst (λ (o : Option AtTarget). R o (Some w)) is changes)

-- and then taken out
pub taken_out : (target : Target) (old mid new : Targets) (was w : AtTarget) (R : Option AtTarget → Option AtTarget → Type 0)
    → Some was ≡ get by_target old target → WritesThrough by_target (by_target target) old w mid → UpdatesBy by_target (by_target target) mid new None
    → R (Some was) None → ChangesAt target old new R
taken_out target old mid new was w R is written removed changes =
    let updates = written.3 (some_is (get by_target old target) was is) in
    record {
      here = subst (λ (o : Option AtTarget). R o (get by_target new target)) is (subst (R (Some was)) (sym removed.1) changes);
      elsewhere = λ other differs. removed.2 other (tied target other ∙ differs) ∙ updates.2 other (tied target other ∙ differs);
    }

-- what wasn't there is put in
pub put_in : (target key : Target) (old mid new : Targets) (w : AtTarget) (R : Option AtTarget → Option AtTarget → Type 0)
    → None ≡ get by_target old target → mid ≡ old → key ≡ target → Updates by_target mid new key (Some w) → R None (Some w) → ChangesAt target old new R
put_in target key old mid new w R none same is updates changes =
    replaced target old new (Some w) R
    (subst (λ (k : Target). Updates by_target old new k (Some w)) is (subst (λ (m : Targets). Updates by_target m new key (Some w)) same updates))
    (subst (λ (o : Option AtTarget). R o (Some w)) none changes)

-- nothing changes
pub left_alone : (target : Target) (old mid : Targets) (R : Option AtTarget → Option AtTarget → Type 0) → None ≡ get by_target old target → mid ≡ old → R None None
    → ChangesAt target old mid R
left_alone target old mid R none same changes =
    subst (λ (m : Targets). ChangesAt target old m R) (sym same)
    (record {
      here = subst (λ (o : Option AtTarget). R o o) none changes;
      elsewhere = λ other differs. refl;
    })

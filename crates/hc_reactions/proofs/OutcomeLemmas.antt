-- What an open exchange gets once the origin has answered its forward.
use Rattle.std.proofs.Common.{◌≡◌, ◌∙◌, ℕ, Bool, List, true, false, cond, not, Option, Some, None, IfOk, Ok, Err, Result, ap, refl, sym, subst}
use Rattle.std.specs.Prelude.{◌&&◌, ◌||◌, ◌==◌}
use Rattle.hc_fields.specs.declared.fields.Field.{Field}
use Rattle.hc_head.specs.declared.head.RequestHead.{RequestHead}
use Rattle.hc_head.specs.declared.head.ResponseHead.{ResponseHead}
use Rattle.hc_head.specs.declared.head.Target.{Target}
use Rattle.hc_head.specs.Methods.{is_get, is_head}
use Rattle.hc_head.specs.Statuses.{not_modified}
use Rattle.hc_framing.specs.declared.message.Message.{Message}
use Rattle.hc_store.specs.Entries.{Holdings}
use Rattle.hc_service.specs.declared.cases.Cause.{Cause}
use Rattle.hc_service.specs.Choices.{Finds, OnTest, validated_by}
use Rattle.hc_service.specs.Answers.{Answer, FailsByStore, Passes, Replaces, RepliesInPlace, Responds, failed_outcome, has_condition, is_replaceable, is_unasked, is_validation, replacement, rule_of, validated_outcome}
use Rattle.hc_service.specs.Answers.Rule.{Validates, IsUnasked, MayBeReplaced, IsPassedOn}
use Rattle.hc_service.specs.Answers.Outcome.{Replies}
use Rattle.hc_service.specs.Replying.{Wanted, bad_gateway, failure_status, made_reply}
use Rattle.hc_update.specs.declared.stored.Stored.{Stored}
use Rattle.hc_reactions.specs.declared.outcomes.Outcome.{Outcome}
use Rattle.hc_reactions.specs.Outcomes.{Answered, GivesReplacement, owed_outcome, replacing}

on_true : (one other : Type 0) (test : Bool) → test ≡ true → one → OnTest test one other
on_true one other test is fact = subst (λ (t : Bool). OnTest t one other) (sym is) fact

on_false : (one other : Type 0) (test : Bool) → test ≡ false → other → OnTest test one other
on_false one other test is fact = subst (λ (t : Bool). OnTest t one other) (sym is) fact

third_of_three : (a b c : Bool) → a ≡ true → b ≡ true → c ≡ (a && b && c)
third_of_three a b c first second = rw (first, second) refl

-- whether a 304 to a GET or a HEAD is one that nobody asked for
pub unasked_without_condition : (sent : RequestHead) (response : ResponseHead) (method : List ℕ) (reads has : Bool)
    → response.status ≡ not_modified
    → method ≡ sent.method
    → reads ≡ (is_get method || is_head method)
    → reads ≡ true
    → has ≡ has_condition sent
    → not has ≡ is_unasked sent response
unasked_without_condition sent response method reads has status same which is condition =
    ap not condition
    ∙ third_of_three (response.status == not_modified) (is_get sent.method || is_head sent.method)
    (not (has_condition sent)) (ap (λ (n : ℕ). n == not_modified) status)
    (ap (λ (m : List ℕ). is_get m || is_head m) (sym same) ∙ sym which ∙ is)

module _ (answer : Answer) where
  -- a 304 that answers the cache's own condition
  pub validation_gets : {E : Type 0} (conditional : Bool) (position : ℕ) (old new : Holdings) (result : Result Outcome E)
      → is_validation conditional answer.response.head ≡ true
      → new ≡ old
      → IfOk result (λ outcome. owed_outcome outcome
      ≡ validated_outcome answer.wanted answer.cause (validated_by answer.forward.target answer.wanted.asked.fields position old))
      → IfOk result (λ outcome. Responds (rule_of answer.cause conditional answer.forward.request answer.response.head) answer position old (owed_outcome outcome) new)
  validation_gets conditional position old new (Ok outcome) is same gives =
      subst
      (λ (b : Bool). Responds (cond b Validates (cond (is_unasked answer.forward.request answer.response.head) IsUnasked
      (cond (is_replaceable answer.cause answer.response.head) MayBeReplaced IsPassedOn))) answer position old (owed_outcome outcome) new)
      (sym is) (gives, same)
  validation_gets conditional position old new (Err e) is same gives = gives

  -- any other response
  pub other_gets : (conditional : Bool) (position : ℕ) (old new : Holdings) (reply : Message ResponseHead)
      → is_validation conditional answer.response.head ≡ false
      → Answered answer old (Replies reply) new
      → Responds (rule_of answer.cause conditional answer.forward.request answer.response.head) answer position old (Replies reply) new
  other_gets conditional position old new reply is answered =
      go (is_validation conditional answer.response.head) (is_unasked answer.forward.request answer.response.head) (is_replaceable answer.cause answer.response.head)
      is answered
    where
      go : (validation unasked replaceable : Bool) → validation ≡ false
          → OnTest unasked ((◌≡◌ (Replies reply) (Replies (made_reply answer.wanted bad_gateway))) × (new ≡ old))
          (OnTest replaceable (Replaces answer old (Replies reply) new) (Passes answer old (Replies reply) new))
          → Responds (cond validation Validates (cond unasked IsUnasked (cond replaceable MayBeReplaced IsPassedOn))) answer position old (Replies reply) new
      go true unasked replaceable none answered = absurd (cc)
      go false true replaceable none answered = answered
      go false false true none answered = answered
      go false false false none answered = answered

  -- a 304 that nobody asked for: the cache's own reply
  pub unasked_gets : {E : Type 0} (old new : Holdings) (result : Result (Message ResponseHead) E)
      → is_unasked answer.forward.request answer.response.head ≡ true
      → new ≡ old
      → IfOk result (λ reply. reply ≡ made_reply answer.wanted bad_gateway)
      → IfOk result (λ reply. Answered answer old (Replies reply) new)
  unasked_gets old new (Ok reply) is same gives =
      on_true _ _ (is_unasked answer.forward.request answer.response.head) is (ap (λ (r : Message ResponseHead). Replies r) gives, same)
  unasked_gets old new (Err e) is same gives = gives

  -- an error, in whose place something may be the reply
  pub error_gets : {E : Type 0} (old new : Holdings) (result : Result (Message ResponseHead) E)
      → is_unasked answer.forward.request answer.response.head ≡ false
      → is_replaceable answer.cause answer.response.head ≡ true
      → IfOk result (λ reply. Replaces answer old (Replies reply) new)
      → IfOk result (λ reply. Answered answer old (Replies reply) new)
  error_gets old new (Ok reply) is may replaces =
      on_false _ _ (is_unasked answer.forward.request answer.response.head) is
      (on_true _ _ (is_replaceable answer.cause answer.response.head) may replaces)
  error_gets old new (Err e) is may replaces = replaces

  -- any other one: the response itself
  pub response_passes : {E : Type 0} (old new : Holdings) (result : Result (Message ResponseHead) E)
      → is_unasked answer.forward.request answer.response.head ≡ false
      → is_replaceable answer.cause answer.response.head ≡ false
      → IfOk result (λ reply. Passes answer old (Replies reply) new)
      → IfOk result (λ reply. Answered answer old (Replies reply) new)
  response_passes old new (Ok reply) is may passes =
      on_false _ _ (is_unasked answer.forward.request answer.response.head) is
      (on_false _ _ (is_replaceable answer.cause answer.response.head) may passes)
  response_passes old new (Err e) is may passes = passes

some_same : {X : Type 0} (a b : X) → Some a ≡ Some b → a ≡ b
some_same a b e = cc

some_none : {X : Type 0} (a : X) → Some a ≡ None → ⊥
some_none a e = cc

-- what the store is asked for, by the fields of the request
pub asked_finds : (target : Target) (asked fields : List Field) (old new : Holdings) (chosen : Option Stored)
    → asked ≡ fields
    → Finds target asked old chosen new
    → Finds target fields old chosen new
asked_finds target asked fields old new chosen is finds = subst (λ (f : List Field). Finds target f old chosen new) is finds

-- what the store chose decides
pub replacement_gives : {E : Type 0} (answer : Answer) (old new : Holdings) (chosen : Option Stored)
    (asked : List Field) (result : Result (Option (Message ResponseHead)) E)
    → asked ≡ answer.wanted.asked.fields
    → Finds answer.forward.target asked old chosen new
    → IfOk result (λ reply. reply ≡ replacing answer.wanted answer.cause (Some answer.response.head.status) (replacement answer.wanted chosen))
    → IfOk result (λ reply. GivesReplacement answer old reply new)
replacement_gives answer old new chosen asked (Ok reply) is finds gives = record {
  chosen = chosen;
  finds = asked_finds answer.forward.target asked answer.wanted.asked.fields old new chosen is finds;
  reply_is = gives;
}
replacement_gives answer old new chosen asked (Err e) is finds gives = gives

pub failure_gives : {E : Type 0} (wanted : Wanted) (target : Target) (cause : Cause) (old new : Holdings) (chosen : Option Stored)
    (asked : List Field) (result : Result (Message ResponseHead) E)
    → asked ≡ wanted.asked.fields
    → Finds target asked old chosen new
    → IfOk result (λ reply. Replies reply ≡ failed_outcome wanted cause chosen (replacement wanted chosen))
    → IfOk result (λ reply. FailsByStore wanted target cause old (Replies reply) new)
failure_gives wanted target cause old new chosen asked (Ok reply) is finds gives = record {
  chosen = chosen;
  finds = asked_finds target asked wanted.asked.fields old new chosen is finds;
  outcome_is = gives;
}
failure_gives wanted target cause old new chosen asked (Err e) is finds gives = gives

-- the reply to a failure: what takes the place, or one that says that there is none
pub failed_by_stored : (wanted : Wanted) (cause : Cause) (chosen replaced : Option Stored) (reply : Message ResponseHead)
    → Some reply ≡ replacing wanted cause None replaced
    → Replies reply ≡ failed_outcome wanted cause chosen replaced
failed_by_stored wanted cause chosen (Some stored) reply gives = ap (λ (r : Message ResponseHead). Replies r) (some_same _ _ gives)
failed_by_stored wanted cause chosen None reply gives = absurd (some_none _ gives)

failed_with_status : (wanted : Wanted) (cause : Cause) (chosen replaced : Option Stored) (reply : Message ResponseHead)
    → None ≡ replacing wanted cause None replaced
    → reply ≡ made_reply wanted (failure_status chosen)
    → Replies reply ≡ failed_outcome wanted cause chosen replaced
failed_with_status wanted cause chosen None reply nothing gives = ap (λ (r : Message ResponseHead). Replies r) gives
failed_with_status wanted cause chosen (Some stored) reply nothing gives = absurd (some_none _ (sym nothing))

pub failed_by_none : {E : Type 0} (wanted : Wanted) (cause : Cause) (chosen replaced : Option Stored) (status : ℕ)
    (result : Result (Message ResponseHead) E)
    → None ≡ replacing wanted cause None replaced
    → status ≡ failure_status chosen
    → IfOk result (λ reply. reply ≡ made_reply wanted status)
    → IfOk result (λ reply. Replies reply ≡ failed_outcome wanted cause chosen replaced)
failed_by_none wanted cause chosen replaced status (Ok reply) nothing is gives =
    failed_with_status wanted cause chosen replaced reply nothing (gives ∙ ap (λ (n : ℕ). made_reply wanted n) is)
failed_by_none wanted cause chosen replaced status (Err e) nothing is gives = gives

-- where nothing takes the place of an error, the error is passed on
pub nothing_replaces : {E : Type 0} (answer : Answer) (old between new : Holdings)
    (reply : Option (Message ResponseHead)) (result : Result (Message ResponseHead) E)
    → GivesReplacement answer old reply between
    → reply ≡ None
    → IfOk result (λ given. Passes answer between (Replies given) new)
    → IfOk result (λ given. Replaces answer old (Replies given) new)
nothing_replaces answer old between new reply (Ok given) gives none passes = record {
  chosen = gives.chosen;
  between = between;
  finds = gives.finds;
  ends = go (replacement answer.wanted gives.chosen) (sym none ∙ gives.reply_is);
}
  where
    go : (replaced : Option Stored) → None ≡ replacing answer.wanted answer.cause (Some answer.response.head.status) replaced
        → RepliesInPlace replaced answer between (Replies given) new
    go None is = passes
    go (Some stored) is = absurd (cc)
nothing_replaces answer old between new reply (Err e) gives none passes = tt

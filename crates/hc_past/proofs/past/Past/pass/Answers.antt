use Rattle.std.proofs.Common.{◌∙◌, ◌∷◌, Some, None, ap, subst, sym}
use Rattle.std.specs.Prelude.{OnOk}
use Rattle.hc_transcript.specs.declared.line.Kind.TheVariants as kind
use Rattle.hc_transcript.specs.declared.view.MeaningView.{MeaningView}
use Rattle.hc_transcript.specs.Items.{Item, ClientReply, OriginRequest, item_number, item_seen, moment_of}
use Rattle.hc_transcript.specs.History.{cause_of, forward_of}
use Rattle.hc_past.specs.Remembered.{HasAsked, IsKnownOf, IsLatestOf, IsPastOf, Remembers, RemembersForbidden, RemembersLatest, all_ends, all_forbidden, any_ends_with, ends_of, ends_with, forbidden_after, forbidden_to, most_ends, named_as}
use Rattle.hc_past.proofs.ForbiddenLemmas.{Pairs, none_forbidden, where_ok}
use Rattle.hc_past.proofs.ItemLemmas.{by_place}
use Rattle.hc_past.proofs.past.Past.pass.Goals as goal

pub returns-in-ClientReply-clause-asked : goal.returns-in-ClientReply-clause-asked
returns-in-ClientReply-clause-asked g c = λ h target has behind.
    let m = c.item.inside.moment in
    let reply = c.in-ClientReply.field-0 in
    by_place (λ p i. HasAsked target (ClientReply (item_number i) m reply ∷ h) c.answer.new.self) (λ i. HasAsked target (i ∷ h) c.answer.new.self) _ _ _ _ behind.position
    (sym c.item.view_is ∙ ap (λ (of : MeaningView). item_seen c.item.inside.number c.item.inside.moment of) c.in-ClientReply.is) (λ x. x)
    (rw c.number.ensures at c.answer.ensures.asked h target m reply has behind.position)

pub returns-in-ClientReply-clause-known : goal.returns-in-ClientReply-clause-known
returns-in-ClientReply-clause-known g c = λ h target has behind.
    subst (λ (i : Item). IsKnownOf target (i ∷ h) c.answer.new.self) (sym (sym c.item.view_is ∙ ap (λ (of : MeaningView). item_seen c.item.inside.number c.item.inside.moment of) c.in-ClientReply.is))
    (c.answer.ensures.known target _ _ has)

pub returns-in-ClientRequest-clause-known : goal.returns-in-ClientRequest-clause-known
returns-in-ClientRequest-clause-known g c = λ h target has behind.
    subst (λ (i : Item). OnOk c.take_asked.result (IsKnownOf target (i ∷ h) c.take_asked.new.self)) (sym (sym c.item.view_is ∙ ap (λ (of : MeaningView). item_seen c.item.inside.number c.item.inside.moment of) c.in-ClientRequest.is))
    (where_ok c.take_asked.result _ (c.take_asked.ensures.known target _ _ has))

pub returns-in-ClientRequest-clause-forbidden : goal.returns-in-ClientRequest-clause-forbidden
returns-in-ClientRequest-clause-forbidden g c = λ h has behind.
    let all = all_forbidden h in
    subst (λ (i : Item). OnOk c.take_asked.result (RemembersForbidden (forbidden_after h i all) c.take_asked.new.self)) (sym (sym c.item.view_is ∙ ap (λ (of : MeaningView). item_seen c.item.inside.number c.item.inside.moment of) c.in-ClientRequest.is))
    (where_ok c.take_asked.result _ (c.take_asked.ensures.forbidden all has))

pub returns-in-OriginRequest-clause-forbidden : goal.returns-in-OriginRequest-clause-forbidden
returns-in-OriginRequest-clause-forbidden g c = λ h has behind.
    let all = all_forbidden h in
    subst (λ (i : Item). OnOk c.take_sent.result (RemembersForbidden (forbidden_after h i all) c.take_sent.new.self)) (sym (sym c.item.view_is ∙ ap (λ (of : MeaningView). item_seen c.item.inside.number c.item.inside.moment of) c.in-OriginRequest.is))
    (where_ok c.take_sent.result _ (c.take_sent.ensures.forbidden all has))

pub returns-in-OriginRequest-clause-known : goal.returns-in-OriginRequest-clause-known
returns-in-OriginRequest-clause-known g c = λ h target has behind.
    let request = c.in-OriginRequest.request in
    let cause = c.in-OriginRequest.cause in
    by_place (λ p i. OnOk c.take_sent.result (IsKnownOf target (OriginRequest (item_number i) (moment_of i) request c.in-OriginRequest.target.now cause ∷ h) c.take_sent.new.self))
    (λ i. OnOk c.take_sent.result (IsKnownOf target (i ∷ h) c.take_sent.new.self)) _ _ _ _ behind.position
    (sym c.item.view_is ∙ ap (λ (of : MeaningView). item_seen c.item.inside.number c.item.inside.moment of) c.in-OriginRequest.is) (λ x. x)
    (c.take_sent.ensures.known h target request cause has behind.position)

pub returns-in-OriginResponse-clause-ends : goal.returns-in-OriginResponse-clause-ends
returns-in-OriginResponse-clause-ends g c = λ h target before behind.
    by_place (λ p i. OnOk c.take.result (Remembers target (ends_with target.path (named_as kind.OriginResponse p (item_number i) (moment_of i)) (cause_of (item_number i) h) (Some c.in-OriginResponse.response) (forward_of (item_number i) h)
    (ends_of target.path h)) c.take.new.self))
    (λ i. OnOk c.take.result (IsPastOf target (i ∷ h) c.take.new.self)) _ _ _ _ behind.position
    (sym c.item.view_is ∙ ap (λ (of : MeaningView). item_seen c.item.inside.number c.item.inside.moment of) c.in-OriginResponse.is) (λ x. x)
    (c.take.ensures.ends h target (ends_of target.path h) before behind)

pub returns-in-OriginResponse-clause-latest : goal.returns-in-OriginResponse-clause-latest
returns-in-OriginResponse-clause-latest g c = λ h before behind.
    by_place (λ p i. OnOk c.take.result (RemembersLatest most_ends (any_ends_with (named_as kind.OriginResponse p (item_number i) (moment_of i)) (cause_of (item_number i) h) (Some c.in-OriginResponse.response) (forward_of (item_number i) h)
    (all_ends h)) c.take.new.self))
    (λ i. OnOk c.take.result (IsLatestOf (i ∷ h) c.take.new.self)) _ _ _ _ behind.position
    (sym c.item.view_is ∙ ap (λ (of : MeaningView). item_seen c.item.inside.number c.item.inside.moment of) c.in-OriginResponse.is) (λ x. x)
    (c.take.ensures.latest h (all_ends h) before behind)

pub returns-in-OriginFailure-clause-ends : goal.returns-in-OriginFailure-clause-ends
returns-in-OriginFailure-clause-ends g c = λ h target before behind.
    by_place (λ p i. OnOk c.take-in-OriginFailure.result (Remembers target (ends_with target.path (named_as kind.OriginFailure p (item_number i) (moment_of i)) (cause_of (item_number i) h) (None) (forward_of (item_number i) h)
    (ends_of target.path h)) c.take-in-OriginFailure.new.self))
    (λ i. OnOk c.take-in-OriginFailure.result (IsPastOf target (i ∷ h) c.take-in-OriginFailure.new.self)) _ _ _ _ behind.position
    (sym c.item.view_is ∙ ap (λ (of : MeaningView). item_seen c.item.inside.number c.item.inside.moment of) c.in-OriginFailure.is) (λ x. x)
    (c.take-in-OriginFailure.ensures.ends h target (ends_of target.path h) before behind)

pub returns-in-OriginFailure-clause-latest : goal.returns-in-OriginFailure-clause-latest
returns-in-OriginFailure-clause-latest g c = λ h before behind.
    by_place (λ p i. OnOk c.take-in-OriginFailure.result (RemembersLatest most_ends (any_ends_with (named_as kind.OriginFailure p (item_number i) (moment_of i)) (cause_of (item_number i) h) (None) (forward_of (item_number i) h)
    (all_ends h)) c.take-in-OriginFailure.new.self))
    (λ i. OnOk c.take-in-OriginFailure.result (IsLatestOf (i ∷ h) c.take-in-OriginFailure.new.self)) _ _ _ _ behind.position
    (sym c.item.view_is ∙ ap (λ (of : MeaningView). item_seen c.item.inside.number c.item.inside.moment of) c.in-OriginFailure.is) (λ x. x)
    (c.take-in-OriginFailure.ensures.latest h (all_ends h) before behind)

pub returns-in-OriginResponse-clause-forbidden : goal.returns-in-OriginResponse-clause-forbidden
returns-in-OriginResponse-clause-forbidden g c = λ h has behind.
    let all = all_forbidden h in
    by_place (λ p i. OnOk c.take.result (RemembersForbidden (forbidden_to (Some c.in-OriginResponse.response) (forward_of (item_number i) h) all) c.take.new.self))
    (λ i. OnOk c.take.result (RemembersForbidden (forbidden_after h i all) c.take.new.self)) _ _ _ _ behind.position
    (sym c.item.view_is ∙ ap (λ (of : MeaningView). item_seen c.item.inside.number c.item.inside.moment of) c.in-OriginResponse.is) (λ x. x)
    (c.take.ensures.forbidden h all has behind)

pub returns-in-OriginFailure-clause-forbidden : goal.returns-in-OriginFailure-clause-forbidden
returns-in-OriginFailure-clause-forbidden g c = λ h has behind.
    let all = all_forbidden h in
    let took = c.take-in-OriginFailure in
    subst (λ (i : Item). OnOk took.result (RemembersForbidden (forbidden_after h i all) took.new.self)) (sym (sym c.item.view_is ∙ ap (λ (of : MeaningView). item_seen c.item.inside.number c.item.inside.moment of) c.in-OriginFailure.is))
    (subst (λ (l : Pairs). OnOk took.result (RemembersForbidden l took.new.self)) (none_forbidden (forward_of (item_number c.args.passed.now.item.now) h) all)
    (took.ensures.forbidden h all has behind))

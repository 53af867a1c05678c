use Rattle.std.proofs.Common.{◌≡◌, ◌∷◌, [], sym, ◌∙◌, rules}
use Rattle.std.proofs.lemmas.Bool.{ne_eqb}
use Rattle.std.proofs.lemmas.List.{nil_from_length}
use Rattle.std.proofs.lemmas.Result.{err_from_is_err_and}
use Rattle.hc_status.specs.Classes.{is_blank}
use Rattle.hc_status.specs.Reading.{behind}
use Rattle.hc_status.proofs.LoopLemmas.{members_fault, members_behind, members_end, members_broken, members_step, comma_shortens}
use Rattle.hc_status.proofs.members.members.Goals as goal

pub returns-in_err-member-clause-err : goal.returns-in_err-member-clause-err
returns-in_err-member-clause-err c =
    let p = err_from_is_err_and c.from_residual.result c.from_residual.ensures.1 in
    let fails = members_fault c.in_err-member.field-0.0 c.args.text.now c.loop-members.rest.now c.loop-members.members.items c.loop-members.invariant c.in_err-member.ensures.err in
    rw (p.1, p.2) fails

pub returns-in_default-clause-ok : goal.returns-in_default-clause-ok
returns-in_default-clause-ok c =
    let stands = members_behind c.args.text.now c.loop-members.rest.now c.loop-members.members.items c.in_ok-member.member c.in_ok-member.behind.now c.loop-members.invariant c.in_ok-member.ensures.ok in
    let none : behind is_blank c.in_ok-member.behind.now ≡ [] = sym c.skip_blanks.ensures ∙ nil_from_length _ c.in_default.ensures.cases in
    let found = members_end _ _ _ _ _ stands none in
    let items = c.in_ok-push.ensures.items in
    cc

pub returns-then-comma-ne44-clause-err : goal.returns-then-comma-ne44-clause-err
returns-then-comma-ne44-clause-err c =
    let stands = members_behind c.args.text.now c.loop-members.rest.now c.loop-members.members.items c.in_ok-member.member c.in_ok-member.behind.now c.loop-members.invariant c.in_ok-member.ensures.ok in
    let cut : behind is_blank c.in_ok-member.behind.now ≡ c.in-Some.comma.now ∷ c.in-Some.more.now = search rules in
    members_broken _ _ _ _ _ c.in-Some.comma.now c.in-Some.more.now stands cut (ne_eqb _ 44 c.if-comma-ne44.true)

pub loop-members-smaller : goal.loop-members-smaller
loop-members-smaller c =
    let stands = members_behind c.args.text.now c.loop-members.rest.now c.loop-members.members.items c.in_ok-member.member c.in_ok-member.behind.now c.loop-members.invariant c.in_ok-member.ensures.ok in
    let cut : behind is_blank c.in_ok-member.behind.now ≡ 44 ∷ c.in-Some.more.now = search rules in
    rw c.skip_blanks-rest.ensures (comma_shortens _ _ _ _ _ c.in-Some.more.now stands cut)

pub loop-members-preserved : goal.loop-members-preserved
loop-members-preserved c =
    let stands = members_behind c.args.text.now c.loop-members.rest.now c.loop-members.members.items c.in_ok-member.member c.in_ok-member.behind.now c.loop-members.invariant c.in_ok-member.ensures.ok in
    let cut : behind is_blank c.in_ok-member.behind.now ≡ 44 ∷ c.in-Some.more.now = search rules in
    rw (c.in_ok-push.ensures.items, c.skip_blanks-rest.ensures) (members_step _ _ _ _ _ c.in-Some.more.now stands cut)

use Rattle.std.proofs.Common.{Some, OnOk, refl, ap, subst}
use Rattle.std.proofs.lemmas.Result.{on_ok_weaker}
use Rattle.hc_head.specs.declared.head.ResponseHead.{ResponseHead}
use Rattle.hc_framing.specs.declared.message.Message.{Message}
use Rattle.hc_index.specs.declared.at_target.AtTarget.{AtTarget}
use Rattle.hc_index.specs.Lists.{forward_seen}
use Rattle.hc_index.specs.Maps.{AnswersAt}
use Rattle.hc_index.proofs.TargetsLemmas.{lives_answered_here}
use Rattle.hc_index.proofs.at_target.AtTarget.answer.Goals as goal

pub returns : goal.returns
returns c =
    let forward = forward_seen c.args.forward in
    let response : Message ResponseHead = record { head = c.args.response.head; body = c.in_ok-body.body } in
    let new : AtTarget = record {
      lives = c.begin_live.new.lives;
      error = c.error_after-self.result;
      failure = c.args.self.now.failure;
      pool = c.add.new.self;
    } in
    subst (λ (r : Message ResponseHead). OnOk c.begin_live.result (AnswersAt forward c.args.cause c.args.position c.args.moment r (Some c.args.self.now) (Some new)))
    (ap (λ body. let r : Message ResponseHead = record { head = c.args.response.head; body = body } in r) c.in_ok-body.ensures)
    (on_ok_weaker c.begin_live.result
    (λ begun. record {
      live = lives_answered_here forward c.args.position c.args.moment response c.args.self.now.lives.items c.answer_lives.new.lives.items c.begin_live.new.lives.items
          c.in_ok-answer_lives.ensures (begun forward.target);
      error = c.error_after-self.ensures;
      failure = refl;
      others = c.in_ok-add.ensures.others;
      windows = c.in_ok-add.ensures.answers;
    })
    c.begin_live.ensures)

use Rattle.std.proofs.Common.{◌∙◌, ap, arith, inl, inr, refl}
use Rattle.std.proofs.lemmas.List.{length-map, map-append}
use Rattle.hc_figures.specs.Wrongs.{wrongs_of}
use Rattle.hc_figures.specs.declared.listed.ListedReply.{ListedReply}
use Rattle.hc_figures.specs.declared.listed.TheConstants.{MOST_LISTED}
use Rattle.hc_figures.proofs.ListedLemmas.{one_more, no_more}
use Rattle.hc_figures.proofs.listed.ListedReplies.list.Goals as goal

pub returns-in_ok-push-clause-front : goal.returns-in_ok-push-clause-front
returns-in_ok-push-clause-front c wrongs same =
    let many = length-map c.args.listed.now.items (λ (reply : ListedReply). reply.wrong) in
    ap wrongs_of c.in_ok-push.ensures.items
    ∙ map-append (λ (reply : ListedReply). reply.wrong) c.args.listed.now.items _
    ∙ one_more MOST_LISTED (wrongs_of c.args.listed.now.items) wrongs c.args.wrong same
    (omega (arith, many, c.if-len-lt-MOST_LISTED.true, c.len.ensures, c.args.listed.now.ok.0))

pub returns-else-len-lt-MOST_LISTED-clause-front :
    goal.returns-else-len-lt-MOST_LISTED-clause-front
returns-else-len-lt-MOST_LISTED-clause-front c wrongs same =
    let many = length-map c.args.listed.now.items (λ (reply : ListedReply). reply.wrong) in
    no_more MOST_LISTED (wrongs_of c.args.listed.now.items) wrongs c.args.wrong same
    (omega (arith, many, c.if-len-lt-MOST_LISTED.false, c.len.ensures, c.args.listed.now.ok.0))

pub returns-in_ok-push-clause-next : goal.returns-in_ok-push-clause-next
returns-in_ok-push-clause-next c = inr (_, c.in_ok-push.ensures.items, refl, c.in_ok-request.ensures)

pub returns-else-len-lt-MOST_LISTED-clause-next :
    goal.returns-else-len-lt-MOST_LISTED-clause-next
returns-else-len-lt-MOST_LISTED-clause-next c = inl refl

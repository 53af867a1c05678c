use Rattle.std.proofs.Common.{◌∙◌, refl, sym}
use Rattle.hc_transcript.specs.Items.{Exchange}
use Rattle.hc_transcript.specs.History.{exchange_of}
use Rattle.hc_history.specs.Claims.{claim_of}
use Rattle.hc_report.proofs.KindLemmas.{shown_claims, shown_nothing}
use Rattle.hc_report.proofs.report.shown_request.Goals as goal

pub returns-in-None : goal.returns-in-None
returns-in-None g c = λ h seen.
    let judged = c.args.judged.now in
    shown_nothing (exchange_of judged.exchange h) (λ (opened : Exchange). claim_of judged.format judged.settings.now opened judged.moment judged.reply h)
    (record { method = c.new.result; target = c.new-in-None.result }) (sym c.in-None.is ∙ c.claim.ensures h seen) c.new.ensures.bytes c.new-in-None.ensures.bytes

pub returns-in-Some : goal.returns-in-Some
returns-in-Some g c = λ h seen.
    let judged = c.args.judged.now in
    shown_claims c.shown_of.result (exchange_of judged.exchange h) (λ (opened : Exchange). claim_of judged.format judged.settings.now opened judged.moment judged.reply h) c.in-Some.claim
    (sym c.in-Some.is ∙ c.claim.ensures h seen) (λ opened. refl) (λ opened. refl) c.shown_of.ensures.method c.shown_of.ensures.target

use Rattle.hc_scripts.proofs.ScriptEventLemmas.{one_more_event, fit_one_more}
use Rattle.hc_scripts.proofs.reading.read_events.Goals as goal

pub events-preserved : goal.events-preserved
events-preserved c =
    let begins = c.in_ok-event.ensures.ok in
    rw c.in_ok-push.ensures.items (record {
      text_is = one_more_event c.args.text.now c.events.rest.now c.in_ok-event.behind.now c.events.events.items c.in_ok-event.event c.events.invariant.text_is begins;
      fit = fit_one_more c.events.events.items c.in_ok-event.event c.events.invariant.fit begins.fits;
    })

use Rattle.std.proofs.Common.{◌≡◌, IfOk, Some, ap, ◌∙◌, subst}
use Rattle.httpdate.specs.Date.{unix_secs}
use Rattle.hc_fresh.specs.Dates.{date_of}
use Rattle.hc_fresh.proofs.DateLemmas.{text_is, read_back}
use Rattle.hc_fresh.proofs.dates.date_text.Goals as goal

pub returns-clause-gives : goal.returns-clause-gives
returns-clause-gives c =
    let same = subst (λ r. IfOk r (λ d. unix_secs d ≡ c.args.moment)) c.unwrap.ensures c.from_unix_secs.ensures.value in
    c.to_bytes.ensures ∙ text_is c.unwrap.result c.args.moment same

pub returns-clause-read_back : goal.returns-clause-read_back
returns-clause-read_back c =
    let same = subst (λ r. IfOk r (λ d. unix_secs d ≡ c.args.moment)) c.unwrap.ensures c.from_unix_secs.ensures.value in
    ap date_of c.to_bytes.ensures ∙ read_back c.unwrap.result ∙ ap (λ n. Some n) same

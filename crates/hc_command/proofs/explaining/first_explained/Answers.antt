use Rattle.std.proofs.Common.{◌≡◌, ◌∙◌, List, ℕ, None, Option, IfSome, sym, subst}
use Rattle.std.specs.Prelude.{slice_get, string_bytes}
use Rattle.std.proofs.lemmas.Result.{IfOk-weaker}
use Rattle.hc_history.specs.declared.wrong.WrongReply.{WrongReply}
use Rattle.hc_history.specs.declared.verdicts.Verdict.TheVariants.{No}
use Rattle.hc_why.specs.Seeking.{HasFound, first_of}
use Rattle.hc_history.specs.declared.settings.Settings.{Settings}
use Rattle.hc_history.specs.declared.verdicts.Verdict.{Verdict}
use Rattle.hc_why.specs.Found.{finding_of, position_of}
use Rattle.hc_command.specs.Report.{Input, IsToldAgain, IsToldBehind}
use Rattle.hc_command.proofs.ReportLemmas.{none_first, nothing_behind, told_behind, verdict_of_first}
use Rattle.hc_command.proofs.explaining.first_explained.Goals as goal

pub returns-in_ok-told-in-Some : goal.returns-in_ok-told-in-Some
returns-in_ok-told-in-Some g c =
    let verdict = c.verdict-verdict.result in
    let seeker = c.surveyed.new.witness in
    let first = first_of seeker in
    let input : Input = record { had = g.R.Read.remaining c.args.twice.now.first; left = g.R.Read.remaining c.surveyed.new.input } in
    let is = verdict_of_first (λ wrongs. first ≡ slice_get wrongs 0) (λ h. HasFound seeker) c.args.terms.settings input c.in_ok-outcome.outcome verdict first
    (c.in_ok-outcome.ensures.surveyed c.new-seeker.ensures.none c.new-seeker.ensures.found)
    (λ octets h wrongs told surveyed. c.verdict-verdict.ensures.verdict octets c.args.terms.settings h wrongs surveyed (c.first_wrong.ensures ∙ told))
    (subst (λ (o : Option WrongReply). IfSome o (λ wrong. verdict ≡ No wrong.position wrong.reason)) c.first_wrong.ensures c.verdict-verdict.ensures.no) in
    let found = c.in-Some.found in
    let again : Input = record { had = g.S.Read.remaining c.args.twice.now.again; left = g.S.Read.remaining c.told_again.new.again } in
    let told = subst (λ (s : Settings). IsToldAgain c.args.terms.json s again (position_of found) (finding_of found)
    (string_bytes c.in_ok-told-in-Some.told)) c.in_ok-same.ensures c.in_ok-told-in-Some.ensures in
    let explained = subst (λ (t : List ℕ). IsToldAgain c.args.terms.json c.args.terms.settings again (position_of found) (finding_of found) t) (sym c.as_str.ensures.value) told in
    let behind = told_behind c.args.terms.json c.args.terms.settings again first verdict (position_of found) (finding_of found) _ c.in-Some.ensures.of_first
    (subst (λ (o : Option WrongReply). IfSome o (λ wrong. verdict ≡ No wrong.position wrong.reason)) c.first_wrong.ensures c.verdict-verdict.ensures.no) explained in
    IfOk-weaker c.verdict_said.result _ _ (λ status said. record { verdict = verdict; is = is; told = _; explained = behind; says = said }) c.verdict_said.ensures

pub returns-in-None : goal.returns-in-None
returns-in-None g c =
    let verdict = c.verdict-verdict.result in
    let seeker = c.surveyed.new.witness in
    let first = first_of seeker in
    let input : Input = record { had = g.R.Read.remaining c.args.twice.now.first; left = g.R.Read.remaining c.surveyed.new.input } in
    let is = verdict_of_first (λ wrongs. first ≡ slice_get wrongs 0) (λ h. HasFound seeker) c.args.terms.settings input c.in_ok-outcome.outcome verdict first
    (c.in_ok-outcome.ensures.surveyed c.new-seeker.ensures.none c.new-seeker.ensures.found)
    (λ octets h wrongs told surveyed. c.verdict-verdict.ensures.verdict octets c.args.terms.settings h wrongs surveyed (c.first_wrong.ensures ∙ told))
    (subst (λ (o : Option WrongReply). IfSome o (λ wrong. verdict ≡ No wrong.position wrong.reason)) c.first_wrong.ensures c.verdict-verdict.ensures.no) in
    let surveyed = c.in_ok-outcome.ensures.surveyed c.new-seeker.ensures.none c.new-seeker.ensures.found in
    let none : c.first_wrong.result ≡ None = c.first_wrong.ensures ∙ none_first first c.into_found.result (c.into_found.ensures.there surveyed.heard) c.in-None.is in
    let again : Input = record { had = g.S.Read.remaining c.args.twice.now.again; left = g.S.Read.remaining c.args.twice.now.again } in
    let nothing = subst (λ (v : Verdict). IsToldBehind c.args.terms.json c.args.terms.settings again v None) (sym (c.verdict-verdict.ensures.none none))
    (nothing_behind c.args.terms.json c.args.terms.settings again c.in_ok-outcome.outcome) in
    IfOk-weaker c.verdict_said-in-None.result _ _ (λ status said. record { verdict = verdict; is = is; told = None; explained = nothing; says = said }) c.verdict_said-in-None.ensures

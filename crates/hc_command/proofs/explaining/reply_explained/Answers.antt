use Rattle.std.proofs.Common.{◌≡◌, ◌≤◌, ◌∙◌, ℕ, List, None, length, sym, subst, true, false}
use Rattle.std.specs.Prelude.{string_bytes}
use Rattle.std.proofs.lemmas.Result.{IfOk-weaker}
use Rattle.hc_why.specs.Found.{finding_of, position_of}
use Rattle.hc_why.specs.Seeking.{HasHeard, HasPassed, IsFoundAt, IsOfPlace, place_of, wrong_at}
use Rattle.hc_past.specs.Standing.{stands_at}
use Rattle.hc_history.specs.declared.settings.Settings.{Settings}
use Rattle.hc_command.specs.Report.{Input, IsHeadLine, IsToldAgain, reply_status}
use Rattle.hc_command.proofs.ReportLemmas.{breaks, finds, is_below}
use Rattle.hc_command.proofs.explaining.reply_explained.Goals as goal

pub returns : goal.returns
returns g c =
    let seeker = c.surveyed.new.witness in
    let found = c.in-Some.found in
    let there : place_of seeker ≡ c.args.position = search in
    let head : IsHeadLine (position_of found) (finding_of found) (string_bytes c.in_ok-head.head) = c.in_ok-head.ensures in
    let status : c.status_of-status.result ≡ reply_status (finding_of found) = search in
    let input : Input = record { had = g.R.Read.remaining c.args.twice.now.first; left = g.R.Read.remaining c.surveyed.new.input } in
    let again : Input = record { had = g.S.Read.remaining c.args.twice.now.again; left = g.S.Read.remaining c.told_again.new.again } in
    let told = subst (λ (s : Settings). IsToldAgain c.args.terms.json s again
    (position_of found) (finding_of found) (string_bytes c.in_ok-told.told)) c.in_ok-same.ensures c.in_ok-told.ensures in
    finds c.args.terms.json c.args.terms.settings input again (λ wrongs. IsFoundAt seeker wrongs) (λ h. HasHeard seeker h) (HasPassed seeker) c.in_ok-outcome.outcome
    (c.in_ok-outcome.ensures.surveyed c.new-seeker.ensures.tells c.new-seeker.ensures.hears)
    c.args.position (position_of found) c.in_ok-reply_said.field-0 (finding_of found) _ _ _
    (λ wrongs told. subst (λ n. IsOfPlace n wrongs (position_of found) (finding_of found)) there (c.in-Some.ensures.place wrongs told))
    (λ h heard. subst (λ n. stands_at n h ≡ true) there (c.in-Some.ensures.stands h heard search))
    (subst (λ (t : List ℕ). IsToldAgain c.args.terms.json c.args.terms.settings again
    (position_of found) (finding_of found) t) (sym c.as_str.ensures.value) told)
    (c.in_ok-reply_said.ensures (position_of found) (finding_of found) head status)

pub returns-in_default : goal.returns-in_default
returns-in_default g c =
    let seeker = c.surveyed.new.witness in
    let there : place_of seeker ≡ c.args.position = search in
    let input : Input = record { had = g.R.Read.remaining c.args.twice.now.first; left = g.R.Read.remaining c.surveyed.new.input } in
    let again : Input = record { had = g.S.Read.remaining c.args.twice.now.again; left = g.S.Read.remaining c.args.twice.now.again } in
    IfOk-weaker c.not_found.result _ _
    (λ status says.
    breaks c.args.terms.json c.args.terms.settings input again (λ wrongs. IsFoundAt seeker wrongs) (λ h. HasHeard seeker h) (HasPassed seeker) c.in_ok-outcome.outcome
    (c.in_ok-outcome.ensures.surveyed c.new-seeker.ensures.tells c.new-seeker.ensures.hears)
    c.args.position status _ _
    (λ h heard. subst (λ n. stands_at n h ≡ false) there (c.in_default.ensures.no_reply h heard search))
    (λ h wrongs heard told. subst (λ n. wrong_at n wrongs ≡ None) there (c.in_default.ensures.none h wrongs heard told search))
    (λ has h heard. subst (λ (n : ℕ). n ≤ length h) there (is_below (place_of seeker) (length h) (sym heard.passed ∙ has)))
    says)
    c.not_found.ensures

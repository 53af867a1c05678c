use Rattle.std.proofs.Common.{◌≡◌, Option, IfSome, subst, sym}
use Rattle.hc_past.specs.declared.past.Past.{Past}
use Rattle.hc_why.specs.declared.explaining.Explanation.{Explanation}
use Rattle.hc_why.specs.Explaining.{Explains, TellsValidator, TellsWindow, claim_judged, judged_of}
use Rattle.hc_explain.specs.Hearing.{RemembersAll}
use Rattle.hc_explain.proofs.HearingLemmas.{of_claim, path_is}
use Rattle.hc_explain.proofs.explaining.explained.Goals as goal

pub returns : goal.returns
returns g c = λ h target behind past same.
    let known = c.in-Some.known in
    let read = c.in_ok-known.ensures in
    let explains : Explains (judged_of c.args.judged.now) h known =
    subst (λ (o : Option Explanation). IfSome o (Explains (judged_of c.args.judged.now) h)) c.in-Some.is (read.is h behind) in
    let path : known.claim.target.path ≡ target.path =
    path_is target known.claim.target (of_claim (claim_judged (judged_of c.args.judged.now) h) known.claim _ explains.claim same) in
    let rests : known.past.now ≡ c.args.past.now = subst (λ (o : Option Explanation). IfSome o (λ e. e.past.now ≡ c.args.past.now)) c.in-Some.is read.past in
    record {
      explanation = known;
      explains = explains;
      window = subst (λ (o : Option Explanation). IfSome o (λ e. e.claim.target.path ≡ target.path → TellsWindow h e)) c.in-Some.is (read.told h target behind past.ends) path;
      validator = subst (λ (o : Option Explanation). IfSome o (λ e. e.claim.target.path ≡ target.path → TellsValidator e)) c.in-Some.is (read.validator h target behind past.ends) path;
      target = target;
      path = path;
      remembers = subst (λ (p : Past). RemembersAll target h p) (sym rests) past;
      is = c.in_ok-told_of.ensures;
    }

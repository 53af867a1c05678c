use denote.Ref.{Bor}
use Rattle.std.proofs.Common.{◌≡◌, ◌∙◌, ap, nat_lt, ℕ, true, IfSome, Option, Some, sym, subst}
use Rattle.std.specs.Prelude.{All}
use Rattle.hc_past.specs.declared.past.End.{End}
use Rattle.hc_past.specs.declared.shortfalls.Nearest.{Nearest}
use Rattle.hc_why.specs.declared.changes.NotAbout.{NotAbout}
use Rattle.hc_why.specs.declared.explaining.Explanation.{Explanation}
use Rattle.hc_why.specs.Listing.{AreNotAbout, IsNotAbout, Lists, is_invalidator}
use Rattle.hc_why.proofs.ListingLemmas.{on_ok}
use Rattle.hc_why.proofs.changes.Ends.take_change.Goals as goal

pub returns-in-Some-2-clause-lists : goal.returns-in-Some-2-clause-lists
returns-in-Some-2-clause-lists c = λ of before.
    let claim = c.args.known.now.claim in
    let nearest = c.in-Some.nearest in
    let is : c.args.known.now.nearest ≡ Some nearest = sym (ap (λ (e : Explanation). e.nearest) c.known.view_is) ∙ c.in-Some.is in
    let known : Lists claim (Some nearest) c.args.self.now = subst (λ (o : Option Nearest). Lists claim o c.args.self.now) is before in
    let one : IsNotAbout claim nearest c.in-Some-2.not_about =
    subst (λ (o : Option NotAbout). IfSome o (IsNotAbout claim nearest)) c.in-Some-2.is (c.in_ok-not_about.ensures claim of) in
    let lists = c.in_ok-take_since.ensures.lists claim of (ap (λ (n : ℕ). nat_lt n c.args.end.now.named.position) c.unwrap_or.ensures) known in
    on_ok c.push.result (c.push.ensures claim (Some nearest) one lists.not_about) (λ pushed. record {
      unstored = lists.unstored;
      window = lists.window;
      invalidators = subst (λ (o : Option Nearest). All (λ (e : Bor End). is_invalidator claim o e.now ≡ true) c.take_since.new.self.invalidators.named.items) (sym is) lists.invalidators;
      not_about = subst (λ (o : Option Nearest). AreNotAbout claim o c.push.new.self) (sym is) pushed;
    })

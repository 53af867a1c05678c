-- How the filling of parts goes on.
use Rattle.std.proofs.Common.{ℕ, List, [], ◌++◌, Option, None, refl, subst, sym, append-nil, append_assoc}
use Rattle.hc_split.specs.declared.fault.SplitFault.{SplitFault}
use Rattle.hc_split.specs.declared.outlets.Outlet.{Outlet}
use Rattle.hc_split.specs.declared.splitter.Splitter.{Splitter}
use Rattle.hc_split.specs.Splitting.{SplitsOn}
use Rattle.hc_split.proofs.SplitLemmas.{splits_nothing, splits_on}
use Rattle.hc_parting.specs.Filling.{Fills}

-- by no octets nothing goes on
pub fills_nothing : {W : Type 0} (contents : W → Option (List ℕ)) (splitter : Splitter) (outlets : List (Outlet W)) → Fills contents splitter outlets splitter outlets [] None
fills_nothing contents splitter outlets = λ read records h is none.
    subst (λ (o : List ℕ). SplitsOn contents outlets outlets splitter splitter o records h) (sym (append-nil read)) (splits_nothing contents outlets splitter splitter read records h is refl refl)

-- by some octets, and then more, it comes to where all of them lead
pub fills_on : {W : Type 0} (contents : W → Option (List ℕ)) (first middle last : Splitter) (before between after : List (Outlet W)) (some more : List ℕ) (stop : Option SplitFault)
    → Fills contents first before middle between some None → Fills contents middle between last after more stop → Fills contents first before last after (some ++ more) stop
fills_on contents first middle last before between after some more stop one two = λ read records h is none.
    let so_far = one read records h is refl in
    subst (λ (o : List ℕ). SplitsOn contents before after first last o records h) (append_assoc read some more)
    (splits_on contents before between after first middle last (read ++ some) ((read ++ some) ++ more) records h so_far (two (read ++ some) so_far.others so_far.items so_far.is none))

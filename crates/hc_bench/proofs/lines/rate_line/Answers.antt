use Rattle.std.proofs.Common.{ℕ, ◌++◌, ◌∷◌, [], ◌∙◌, ap}
use Rattle.std.specs.Prelude.{codes, decimal}
use Rattle.std.proofs.lemmas.Result.{IfOk-weaker}
use Rattle.hc_bench.specs.Lines.{start}
use Rattle.hc_bench.proofs.lines.rate_line.Goals as goal

pub returns : goal.returns
returns c =
    let line_of = λ (speed : ℕ). start c.args.name.now c.args.size
    (codes " messages=" ++ (decimal c.args.rate.now.count ++ (codes " octets=" ++ (decimal c.args.rate.now.octets
    ++ (codes " octets_per_second=" ++ (decimal speed ++ 10 ∷ [])))))) in
    IfOk-weaker c.format.result _ _ (λ line is. is ∙ ap line_of c.octets_per_second-speed.ensures) c.format.ensures.ok

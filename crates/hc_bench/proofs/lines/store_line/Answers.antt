use Rattle.std.proofs.Common.{ℕ, ◌++◌, ◌∷◌, [], ◌∙◌, ap}
use Rattle.std.specs.Prelude.{codes, decimal}
use Rattle.std.proofs.lemmas.Result.{IfOk-weaker}
use Rattle.hc_bench.specs.Rates.{count_per_second}
use Rattle.hc_bench.proofs.lines.store_line.Goals as goal

pub returns : goal.returns
returns c =
    let line_of = λ (choose put : ℕ).
    codes "store keys=" ++ (decimal c.args.keys ++ (codes " used=" ++ (decimal c.args.used
    ++ (codes " calls=" ++ (decimal c.args.choose.now.count ++ (codes " choose_per_second=" ++ (decimal choose
    ++ (codes " put_per_second=" ++ (decimal put ++ 10 ∷ []))))))))) in
    IfOk-weaker c.format.result _ _ (λ line is. is
    ∙ ap (λ (n : ℕ). line_of n c.count_per_second-put_speed.result) c.count_per_second-choose_speed.ensures
    ∙ ap (line_of (count_per_second c.args.choose.now)) c.count_per_second-put_speed.ensures) c.format.ensures.ok

use Rattle.std.proofs.Common.{◌≡◌, IfSome, Option, sym, subst}
use Rattle.std.specs.Prelude.{String, string_bytes}
use Rattle.std.specs.declared.alloc.Global.{Global}
use Rattle.hc_explain.specs.Hearing.{IsToldAmong}
use Rattle.hc_explain.proofs.HearingLemmas.{told_for}
use Rattle.hc_explain.proofs.explaining.Explaining.into_told.Goals as goal

pub returns : goal.returns
returns c = λ h position finding form heard is.
    let told : c.take.result ≡ c.args.self.told = search in
    subst (λ (o : Option (String Global)). IfSome o (λ text. IsToldAmong form h position finding (string_bytes text))) (sym told)
    (told_for c.args.self h position finding form heard is)

use Rattle.std.proofs.Common.{IfSome, Option, subst}
use Rattle.std.specs.Prelude.{String, string_bytes}
use Rattle.std.specs.declared.alloc.Global.{Global}
use Rattle.hc_explain.specs.declared.explaining.Form.{Form}
use Rattle.hc_explain.specs.Hearing.{IsToldAmong}
use Rattle.hc_why.specs.Found.{finding_of, position_of}
use Rattle.hc_command.proofs.explaining.told_again.Goals as goal

pub returns-in-Some : goal.returns-in-Some
returns-in-Some g c =
    let explaining = c.surveyed.new.witness in
    let read = c.in_ok-surveyed.ensures.surveyed tt c.in_ok-explaining.ensures in
    let form = c.form_of-form.result in
    let position = position_of c.args.found in
    let finding = finding_of c.args.found in
    let told = c.into_told.ensures read.history position finding form read.heard (c.is_of.ensures c.if-not-is_of.false) in
    record {
      history = read.history;
      wrongs = read.wrongs;
      outcome = c.in_ok-surveyed.field-0;
      are = record { read = read.read; consumed = read.consumed; are = read.are };
      told = subst (λ (k : Form). IsToldAmong k read.history position finding (string_bytes c.in-Some.told)) c.form_of-form.ensures
          (subst (λ (o : Option (String Global)). IfSome o (λ text. IsToldAmong form read.history position finding (string_bytes text))) c.in-Some.is told);
    }

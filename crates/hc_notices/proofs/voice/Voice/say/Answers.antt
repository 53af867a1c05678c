use Rattle.std.proofs.Common.{◌≡◌, ◌∙◌, false, refl, rules, subst}
use Rattle.std.specs.Io.KnownBytes.{Appends}
use Rattle.hc_notices.specs.Notices.{BeginsBehind, notice_line}
use Rattle.hc_notices.specs.VoiceLaws.{said, stays_as_it_is}
use Rattle.hc_notices.proofs.voice.Voice.say.Goals as goal

pub returns-then-self : goal.returns-then-self
returns-then-self g c = stays_as_it_is g.E.Write.contents c.args.self.now

pub returns-in_default : goal.returns-in_default
returns-in_default g c = stays_as_it_is g.E.Write.contents c.args.self.now

pub returns : goal.returns
returns g c =
    let line : c.as_bytes.result.now ≡ notice_line c.args.notice = c.as_bytes.ensures.value ∙ c.in-Ok.ensures in
    let speaks : c.args.self.now.silent ≡ false = search rules in
    said g.E.Write.contents c.args.self.now _ c.args.notice refl speaks c.put.result refl
    (subst (BeginsBehind (g.E.Write.contents c.args.self.now.to.now) (g.E.Write.contents c.put.new.to)) line c.put.ensures.some)
    (λ whole. subst (Appends (g.E.Write.contents c.args.self.now.to.now) (g.E.Write.contents c.put.new.to)) line (c.put.ensures.all whole))

use Rattle.hc_notices.specs.Voices.{GoesOn}
use Rattle.hc_serving.proofs.wrongs.say_wrongs.Given as goal

-- the voice went on so far
abbrev pub invariant-kinds : goal.invariant-kinds
invariant-kinds g l = GoesOn g.E.Write.contents l.initial.voice l.voice

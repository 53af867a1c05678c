use Rattle.std.proofs.Common.{◌<◌, ap, ◌∙◌, arith}
use Rattle.hc_framing.specs.ChunkLineReading.{most_octets}
use Rattle.hc_framing.proofs.ChunkLineLemmas.{digit_fits, digit_more, size_kept}
use Rattle.hc_framing.proofs.chunk_line.ChunkLineReader.after.Goals as goal
use Rattle.hc_framing.proofs.chunk_line.ChunkLineReader.after.Goals.{in-Digits, in_default}

pub overflow_mul-size : goal.overflow_mul-size
overflow_mul-size c =
    let room : c.args.self.len < 16 = omega (arith, c.most_octets.ensures ∙ ap most_octets c.in-Digits.is) in
    omega (arith, digit_fits c.args.self.size 0 c.args.self.len c.args.self.small (omega arith) room)

pub overflow_add-size : goal.overflow_add-size
overflow_add-size c =
    let room : c.args.self.len < 16 = omega (arith, c.most_octets.ensures ∙ ap most_octets c.in-Digits.is) in
    omega (arith, digit_fits c.args.self.size c.hex_value.result c.args.self.len c.args.self.small c.hex_value.ensures.small room)

pub invariant_of-result : goal.invariant_of-result
invariant_of-result c =
    elim c.match-stage.branch [
      | in-Digits w ↦ record { small = rw w.size-is (digit_more _ _ _ c.args.self.small w.hex_value.ensures.small) }
      | in_default w ↦ record { small = rw w.size-is (size_kept _ _ c.args.self.small) }
    ]

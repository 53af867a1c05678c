use Rattle.std.proofs.Common.{sym, ◌∙◌}
use Rattle.hc_transcript.specs.Standing.{standing_fault}
use Rattle.hc_transcript.proofs.CheckLemmas.{written_line}
use Rattle.hc_transcript.proofs.FrameLemmas.{no_line_breaks, wrong_end_breaks, framed_at}
use Rattle.hc_transcript.proofs.framed.record_at.Goals as goal

pub returns-in_default-parse_line : goal.returns-in_default-parse_line
returns-in_default-parse_line c =
    no_line_breaks c.args.format (standing_fault c.args.standing.now) c.args.bytes.now c.split_at.result.0.now c.in-Some.end c.split_at.ensures.front c.in-Some.ensures.found.1 c.in_default-parse_line.ensures.none

pub returns-then-behind-size-ne10 : goal.returns-then-behind-size-ne10
returns-then-behind-size-ne10 c =
    wrong_end_breaks c.args.format (standing_fault c.args.standing.now) c.args.bytes.now c.split_at.result.0.now c.split_at.result.1.now c.in-Some.end c.in-Some-parse_line.line
    c.split_at.ensures.front c.split_at.ensures.back c.in-Some.ensures.found.0 c.in-Some.ensures.found.1 c.in-Some-parse_line.ensures.found
    (sym c.fault.ensures ∙ c.in_default-fault.is) c.if-behind-size.false c.if-behind-size-ne10.true

pub returns : goal.returns
returns c =
    let keeps = sym c.fault.ensures ∙ c.in_default-fault.is in
    framed_at c.args.format (standing_fault c.args.standing.now) c.args.bytes.now c.split_at.result.0.now c.split_at.result.1.now c.split_at-2.result.1.now _ c.in-Some.end c.in-Some-parse_line.line
    c.split_at.ensures.front c.split_at.ensures.back c.in-Some.ensures.found.0 c.in-Some.ensures.found.1
    c.in-Some-parse_line.ensures.found (written_line c.args.format c.args.standing.now c.split_at.result.0.now c.in-Some-parse_line.line keeps c.in-Some-parse_line.ensures.found)
    keeps c.if-behind-size.false c.if-behind-size-ne10.false c.split_at-2.ensures.back c.split_at-3.ensures.front

use Rattle.hc_flow.proofs.MoveLemmas.{moves_more}
use Rattle.hc_flow.proofs.outbox.Outbox.write_to.Goals as goal

pub writes-preserved : goal.writes-preserved
writes-preserved g c =
    let was = c.writes.invariant in
    let now = c.in-Octets.ensures in record {
      given = λ octets had. now.given octets (was.given octets had);
      got =
          moves_more (g.S.Stream.has_got c.args.stream.now) (g.S.Stream.has_got c.writes.stream) (g.S.Stream.has_got c.write_some.new.stream) c.args.self.now c.writes.self c.write_some.new.self
          c.in-Octets.field-0 was.got now.got.1 now.got.0.2;
      ended = λ ended was_ended. now.ended ended (was.ended ended was_ended);
      fails = λ had. now.fails (was.fails had);
    }
